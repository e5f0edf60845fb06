-- `order` meets its contract: the first i steps are in order.
use Prim.Native.Nat.{◌+◌}
use mathlib.Core.Path.{◌≡◌, sym, ap, ◌∙◌}
use mathlib.Core.Bool.{false, not}
use mathlib.Core.List.{[]}
use Rattle.lists.specs.Lists.{tabulate}
use Rattle.job.specs.declared.refusal.Refusal.TheVariants.{StepOrder}
use Rattle.job.specs.Refusal.{first}
use Rattle.job.proofs.Table.{first_here, first_next}
use Rattle.timeline.specs.Step.{strictly_rising}
use Rattle.timeline.specs.Value.{step_at}
use Rattle.checker.proofs.Loops.{short_rising, rising_step, rising_broken, rising_end}
use native.Mathlib.Omega.{arith}
use Rattle.checker.proofs.rules.order.Goals as goal

pub loop-i-init : goal.loop-i-init
loop-i-init c = short_rising (step_at c.args.plan) 1 (omega arith)

pub returns-then-not-precedes : goal.returns-then-not-precedes
returns-then-not-precedes c =
    let p = c.args.plan in
    let i = c.loop-i.i in
    let broken = sym (c.precedes.ensures p.counts) ∙ c.if-not-precedes.true in
    let e : strictly_rising (tabulate (i + 1) (step_at p)) ≡ false
    = rising_step (step_at p) i (omega arith) ∙ rw (c.loop-i.invariant, broken) in
    sym (first_here StepOrder _ [] (ap not (rising_broken (step_at p) (i + 1) p.length (omega arith) e)))

pub loop-i-preserved : goal.loop-i-preserved
loop-i-preserved c =
    let p = c.args.plan in
    let i = c.loop-i.i in
    let rises = sym (c.precedes.ensures p.counts) ∙ c.if-not-precedes.false in
    rising_step (step_at p) i (omega arith) ∙ rw (c.loop-i.invariant, rises)

pub returns : goal.returns
unfolding first
returns c =
    let p = c.args.plan in
    let e = rising_end (step_at p) c.loop-i.i p.length (omega arith) (λ h. omega arith) c.loop-i.invariant in
    sym (first_next StepOrder _ [] (ap not e))
