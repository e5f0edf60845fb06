-- `watch` meets its contract: up to the clock's minute no need was missing.
use Prim.Native.Nat.{ℕ, ◌+◌}
use mathlib.Core.Path.{◌≡◌, sym, ap, ◌∙◌}
use mathlib.Core.Bool.{not}
use Rattle.lists.specs.Lists.{any}
use Rattle.facts.specs.FactSet.{subset}
use Rattle.job.specs.Job.{Job}
use Rattle.timeline.specs.declared.Plan.{Plan}
use Rattle.timeline.specs.Timeline.{held, next}
use Rattle.timeline.specs.Accepted.{lacks_need}
use Rattle.timeline.specs.Value.{steps_of}
use Rattle.checker.specs.declared.clock.Clock.{Clock}
use mathlib.Core.List.{[]}
use Rattle.std.specs.Prelude.{Ok}
use Rattle.job.specs.declared.refusal.Refusal.TheVariants.{NeedMissing}
use Rattle.job.proofs.Table.{first_here, first_next, first_none}
use Rattle.checker.proofs.WatchLaws.{lacks, watching_none, watching_missing, watching_next}
use Rattle.checker.proofs.WatchLaws.{watching_end, watching_clock, held_tick}
use native.Mathlib.Omega.{arith}
use Rattle.checker.proofs.watch.watch.Goals as goal

-- the needs that are missing in a job with this start set
missing : (start : ℕ) (plan : Plan) (J : Job) → J.start ≡ start
    → any (lacks_need J (steps_of plan)) (steps_of plan) ≡ any (lacks start plan) (steps_of plan)
missing start plan J e =
    ap (λ (s : ℕ). any (λ x. not (subset x.action.needs (held s (steps_of plan) x.start))) (steps_of plan)) e

pub loop-clock-init : goal.loop-clock-init
loop-clock-init c =
    rw c.new-clock.ensures (omega arith, watching_none c.args.start c.args.plan)

pub lacks_need-requires : goal.lacks_need-requires
lacks_need-requires c =
    c.requires.0

pub returns-then-lacks_need : goal.returns-then-lacks_need
returns-then-lacks_need c =
    let P = c.args.plan in
    let found = sym c.lacks_need.ensures ∙ c.if-lacks_need.true in
    λ J e. rw (first_here NeedMissing _ [] (missing c.args.start P J e ∙ watching_missing c.args.start P c.loop-clock.clock
    c.loop-clock.invariant.1 found))

pub tick-clock-requires : goal.tick-clock-requires
tick-clock-requires c =
    (c.requires.0, omega arith)

pub loop-clock-smaller : goal.loop-clock-smaller
loop-clock-smaller c =
    let m = ap (λ (k : Clock). k.minute) c.tick-clock.ensures in
    let t = c.loop-clock-test.true in
    omega arith

pub loop-clock-preserved : goal.loop-clock-preserved
loop-clock-preserved c =
    let P = c.args.plan in
    let k = c.loop-clock.clock in
    let w = c.loop-clock.invariant.1 in
    let m = ap (λ (k : Clock). k.minute) c.tick-clock.ensures in
    let f = ap (λ (k : Clock). k.facts) c.tick-clock.ensures in
    let none = sym c.lacks_need.ensures ∙ c.if-lacks_need.false in
    let t = c.loop-clock-test.true in
    let now = f ∙ ap (next (steps_of P) (k.minute + 1)) w.facts ∙ held_tick c.args.start P k.minute in
    (omega arith, watching_next c.args.start P k w none c.tick-clock.result m now)

pub returns : goal.returns
returns c =
    let P = c.args.plan in
    let k = c.loop-clock.clock in
    let w = c.loop-clock.invariant.1 in
    let last = c.requires.1 in
    let t = c.loop-clock-test.false in
    let none = watching_end c.args.start P k w (omega arith) c.requires.2 in
    let clock = watching_clock c.args.start P k w (omega arith) in
    λ J e. rw (first_next NeedMissing _ [] (missing c.args.start P J e ∙ none) ∙ first_none) (ap Ok clock)
