-- Tests 12 to 19 are tests 12 to 20 for the empty goal.
-- Assumes nothing.
use Prim.Native.Nat.{ℕ}
use mathlib.Core.Path.{◌≡◌, ap}
use mathlib.Core.Bool.{false, not}
use mathlib.Core.List.{List, ◌∷◌, ◌++◌}
use Rattle.facts.proofs.SetLaws.{zero_subset}
use Rattle.job.specs.Job.{Job}
use Rattle.job.specs.Refusal.{◌when◌, first}
use Rattle.job.specs.declared.refusal.Refusal.TheVariants.{PlanSize, GoalMissing}
use Rattle.job.proofs.Table.{first_append_row}
use Rattle.timeline.specs.Step.{Step, steps_in}
use Rattle.timeline.specs.Timeline.{end, held}
use Rattle.timeline.specs.Accepted.{wrong_size, lacks_goal, order_rows, rule_rows, step_rows, plan_rows, run_rows}

no_goal_missing : (J : Job) (P : List Step) → lacks_goal J 0 P ≡ false
no_goal_missing J P = ap not (zero_subset (held J.start P (end P)))

pub run_rows_lem : (J : Job) (bytes : List ℕ) → first (plan_rows J 0 bytes) ≡ first (run_rows J bytes)
unfolding plan_rows step_rows run_rows
run_rows_lem J bytes =
    let P = steps_in J bytes in
    first_append_row (PlanSize when wrong_size bytes ∷ (order_rows J P ++ rule_rows J P)) GoalMissing (lacks_goal J 0 P)
    (no_goal_missing J P)
