-- `wrong_lengths` meets its contract: the first i lengths are within their ranges.
use Prim.Native.Nat.{ℕ, ◌<◌}
use mathlib.Core.Path.{◌≡◌}
use mathlib.Core.Bool.{false}
use lib.ListN.{get_or}
use Rattle.job.specs.Job.{job_in}
use Rattle.timeline.specs.TrueLengths.{outside_range}
use Rattle.timeline.specs.Value.{step_at}
use Rattle.true_day.proofs.wrong_lengths.Given as goal

abbrev pub invariant-loop-i : goal.invariant-loop-i
invariant-loop-i l =
    ((k : ℕ) → k < l.i → outside_range (job_in l.job) (step_at l.plan k) (get_or l.lengths k 0) ≡ false)
