-- What the true day means: within the ranges it is a day that the checker accepts, and it ends no later than planned.
-- Assumes nothing.
use Prim.Native.Nat.{ℕ, ◌≤◌}
use mathlib.Core.Path.{◌≡◌}
use mathlib.Core.List.{List, ◌++◌}
use Rattle.job.specs.Refusal.{pass}
use Rattle.job.specs.Job.{Job}
use Rattle.job.specs.Refusal.{first}
use Rattle.job.specs.Valid.{job_rows}
use Rattle.job.proofs.Passed.{passed}
use Rattle.job.proofs.Table.{first_pass, pass_of_append}
use Rattle.timeline.specs.Step.{steps_in}
use Rattle.timeline.specs.Timeline.{end}
use Rattle.timeline.specs.Accepted.{step_rows, plan_rows}
use Rattle.timeline.proofs.TrueLengths.{true_lengths_pass}
use Rattle.checker.specs.Check.{check_rows}
use Rattle.true_day.specs.TrueDay.{true_rows, true_steps}

-- "For every choice of true length within the ranges, one for each step, the same starts must still pass the checker."
pub true_day_passes : (J : Job) (bytes lengths : List ℕ) → first (true_rows J bytes lengths) ≡ pass
    → (first (step_rows J J.goal (true_steps J bytes lengths)) ≡ pass)
    × (end (true_steps J bytes lengths) ≤ end (steps_in J bytes))
unfolding true_rows check_rows
true_day_passes J bytes lengths h =
    let checks = pass_of_append (job_rows J ++ plan_rows J J.goal bytes) _ h in
    let parts = pass_of_append (job_rows J) (plan_rows J J.goal bytes) checks.0 in
    true_lengths_pass J J.goal bytes lengths (passed J parts.0) parts.1 (first_pass _ _ _ checks.1).0
