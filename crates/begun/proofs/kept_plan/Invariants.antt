-- `kept_plan` meets its contract: the first i steps of the plan are the last i kept ones.
use Prim.Native.Nat.{ℕ, ◌-◌, ◌<◌}
use mathlib.Core.Path.{◌≡◌}
use lib.ListN.{length, get_or}
use Rattle.job.specs.Job.{job_in}
use Rattle.timeline.specs.Value.{beyond_step, step_of_value}
use Rattle.begun.proofs.KeptSteps.{kept_at}
use Rattle.begun.proofs.kept_plan.Given as goal

abbrev pub invariant-loop-i : goal.invariant-loop-i
invariant-loop-i l =
    (length l.steps ≡ 32)
    × ((k : ℕ) → k < l.i
    → step_of_value l.job.counts (get_or l.steps k beyond_step) ≡ kept_at (job_in l.job) l.kept (l.kept.count - 1 - k))
