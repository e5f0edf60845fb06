-- `within` meets its contract: none of the first k pools is exceeded.
use mathlib.Core.Path.{◌≡◌, refl, sym, ap, ◌∙◌}
use mathlib.Core.Bool.{false}
use mathlib.Core.List.{[]}
use lib.ListN.{length, get_or}
use borrow.Author.Tests.{lt-ltb, le-ltb}
use Rattle.lists.specs.Lists.{any_below}
use Rattle.lists.proofs.Below.{below_more, below_found}
use Rattle.lists.proofs.Tabulate.{get_d_tabulate, length_tabulate}
use Rattle.job.specs.declared.Counts.{Counts}
use Rattle.job.specs.declared.refusal.Refusal.TheVariants.{PoolExceeded}
use Rattle.job.specs.Job.{job_in}
use Rattle.job.specs.Refusal.{first}
use Rattle.job.proofs.Table.{first_here, first_next}
use Rattle.timeline.specs.Timeline.{peak}
use Rattle.timeline.specs.Accepted.{exceeds_pool}
use Rattle.timeline.specs.Value.{steps_of}
use Rattle.timeline.proofs.Peaks.{exceeds_by_peak}
use native.Mathlib.Omega.{arith}
use Rattle.checker.proofs.pools.within.Goals as goal

pub loop-k-init : goal.loop-k-init
loop-k-init c = refl

pub peak-requires : goal.peak-requires
peak-requires c =
    let h = c.requires in
    let e = ap (λ (n : Counts). n.pools) h.1 in
    (h.0, omega arith, omega arith)

pub returns-then-from-peak : goal.returns-then-from-peak
returns-then-from-peak c =
    let j = c.args.job in
    let P = steps_of c.args.plan in
    let k = c.loop-k.k in
    let available = get_d_tabulate j.counts.pools (λ i. get_or j.pools i 0) k 0 c.loop-k-test.true in
    let cap = available ∙ sym c.from.ensures in
    let most = c.peak.ensures (job_in j) (sym (c.handovers-handovers.ensures k (rw length_tabulate c.loop-k-test.true))) in
    let over = c.if-from-peak.true in
    let exceeds = exceeds_by_peak (job_in j) k P (get_or (job_in j).pools k 0)
    ∙ lt-ltb (get_or (job_in j).pools k 0) (peak (job_in j) k P) (omega arith) in
    sym (first_here PoolExceeded _ []
    (rw length_tabulate (below_found j.counts.pools (exceeds_pool (job_in j) P) k c.loop-k-test.true exceeds)))

pub loop-k-preserved : goal.loop-k-preserved
loop-k-preserved c =
    let j = c.args.job in
    let P = steps_of c.args.plan in
    let k = c.loop-k.k in
    let available = get_d_tabulate j.counts.pools (λ i. get_or j.pools i 0) k 0 c.loop-k-test.true in
    let cap = available ∙ sym c.from.ensures in
    let most = c.peak.ensures (job_in j) (sym (c.handovers-handovers.ensures k (rw length_tabulate c.loop-k-test.true))) in
    let enough = c.if-from-peak.false in
    let suffices = exceeds_by_peak (job_in j) k P (get_or (job_in j).pools k 0)
    ∙ le-ltb (get_or (job_in j).pools k 0) (peak (job_in j) k P) (omega arith) in
    below_more k (exceeds_pool (job_in j) P) ∙ rw (suffices, c.loop-k.invariant)

pub returns : goal.returns
unfolding first
returns c =
    let j = c.args.job in
    let q : c.loop-k.k ≡ j.counts.pools = omega arith in
    let none : any_below (length (job_in j).pools) (exceeds_pool (job_in j) (steps_of c.args.plan)) ≡ false =
    rw length_tabulate (rw q at c.loop-k.invariant) in
    sym (first_next PoolExceeded _ [] none)
