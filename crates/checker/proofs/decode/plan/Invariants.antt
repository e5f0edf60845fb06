-- `plan` meets its contract: the first i steps are those of the bytes.
use Prim.Native.Nat.{ℕ, ◌<◌}
use mathlib.Core.Path.{◌≡◌}
use lib.ListN.{length, get_or}
use Rattle.job.specs.Job.{job_in}
use Rattle.timeline.specs.Value.{beyond_step, step_of_value}
use Rattle.checker.proofs.PlanBytes.{step_in_at}
use Rattle.checker.proofs.decode.plan.Given as goal

abbrev pub invariant-loop-i : goal.invariant-loop-i
invariant-loop-i l =
    (length l.steps ≡ 32)
    × ((k : ℕ) → k < l.i → step_of_value l.job.counts (get_or l.steps k beyond_step) ≡ step_in_at (job_in l.job) l.bytes k)
