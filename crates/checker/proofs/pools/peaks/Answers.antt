-- `peaks` meets its contract: the peaks of the first k pools, zeros behind them.
use Prim.Native.Nat.{ℕ, ◌<◌}
use mathlib.Core.Path.{◌≡◌, sym, ap, ◌∙◌}
use mathlib.Core.List.{List}
use lib.ListN.{length, set}
use Rattle.lists.proofs.Tabulate.{filled_tabulate, filled_tabulate_none, length_tabulate}
use Rattle.job.specs.declared.Counts.{Counts}
use Rattle.job.specs.Job.{job_in}
use Rattle.timeline.specs.Timeline.{peak}
use Rattle.timeline.specs.Value.{steps_of}
use native.Mathlib.Omega.{arith}
use Rattle.checker.proofs.pools.peaks.Goals as goal

pub loop-k-init : goal.loop-k-init
loop-k-init c =
    let P = steps_of c.args.plan in
    λ J n h. sym (filled_tabulate_none 4 0 (λ pool. peak J pool P))

pub peak-requires : goal.peak-requires
peak-requires c =
    let h = c.requires in
    let e = ap (λ (n : Counts). n.pools) h.1 in
    (h.0, omega arith, omega arith)

pub overflow_cast-out : goal.overflow_cast-out
overflow_cast-out c =
    let J = job_in c.args.job in
    let small = c.requires.3 c.loop-k.k c.loop-k-test.true in
    let same = c.peak.ensures J (sym (c.handovers-handovers.ensures c.loop-k.k (rw length_tabulate c.loop-k-test.true))) in
    record { fits = omega arith }

pub loop-k-preserved : goal.loop-k-preserved
loop-k-preserved c =
    let P = steps_of c.args.plan in
    let fits = c.requires.2.0 in
    let taken = c.loop-k-test.true in λ J n h.
    let f : ℕ → ℕ = λ pool. peak J pool P in
    let inside : c.loop-k.k < length J.pools = omega arith in
    ap (λ (n : ℕ). set c.loop-k.out c.loop-k.k n) (c.peak.ensures J (sym (h c.loop-k.k inside)))
    ∙ ap (λ (xs : List ℕ). set xs c.loop-k.k (f c.loop-k.k)) (c.loop-k.invariant J n h)
    ∙ filled_tabulate 4 0 f c.loop-k.k (omega arith)

pub returns : goal.returns
returns c =
    let j = c.args.job in
    let q : c.loop-k.k ≡ j.counts.pools = omega arith in
    let count = length_tabulate j.counts.pools _ in
    rw length_tabulate (rw q at (c.loop-k.invariant (job_in j) count c.handovers-handovers.ensures))
