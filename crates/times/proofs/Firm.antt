-- An earliest time is a firm "not before" (document 02, l): for every job that passes its tests, whatever the form of
-- its file and its rule for the stores, and for sets of every size. A plan is run with the lengths of its actions.
-- Assumes nothing.
use Prim.Native.Nat.{ℕ, ◌≤◌}
use mathlib.Core.Path.{◌≡◌, refl, ◌∙◌}
use mathlib.Core.List.{List}
use native.Mathlib.Nat.{le_refl}
use Rattle.facts.specs.FactSet.{Subset}
use Rattle.job.specs.Job.{Job}
use Rattle.job.specs.Refusal.{first}
use Rattle.job.specs.Valid.{job_rows}
use Rattle.job.specs.Refusal.{pass}
use Rattle.job.proofs.Passed.{passed}
use Rattle.timeline.specs.Step.{steps_in}
use Rattle.timeline.specs.Timeline.{end, held}
use Rattle.timeline.specs.Accepted.{run_rows}
use Rattle.timeline.specs.Keeps.{PlanOf}
use Rattle.timeline.proofs.RunRows.{run_rows_lem}
use Rattle.times.specs.Time.{Time, at, unreachable}
use Rattle.times.specs.Earliest.{Table, time_of, Solves}
use Rattle.times.specs.Choices.{By}
use Rattle.times.proofs.PlanSteps.{plan_of_accepted}
use Rattle.times.proofs.Admissible.{held_set_not_before_its_time, unreachable_set_never_holds}

-- a time that is at most t is a number
pub number_by : (time : Time) (t : ℕ) → By time t → (x : ℕ) × (time ≡ at x) × (x ≤ t)
number_by (at x) t by = (x, refl, by)
number_by unreachable t by = absurd by

-- "In a plan that passes 12 to 19"
module _ (J : Job) (job : first (job_rows J) ≡ pass) (bytes : List ℕ) (runs : first (run_rows J bytes) ≡ pass) (T : Table)
    (solves : Solves J T) where
  plan : PlanOf J (end (steps_in J bytes)) 0 (steps_in J bytes)
  plan = plan_of_accepted J 0 bytes (end (steps_in J bytes)) (passed J job) (run_rows_lem J bytes ∙ runs) (le_refl _)

  -- "let a set of facts hold together at some minute up to the end. That minute is not below the earliest time of the
  -- set"
  pub earliest_time_is_firm : (set t : ℕ) → t ≤ end (steps_in J bytes) → Subset set (held J.start (steps_in J bytes) t)
      → (x : ℕ) × (time_of J T set ≡ at x) × (x ≤ t)
  earliest_time_is_firm set t l holds =
      number_by (time_of J T set) t
      (held_set_not_before_its_time J T solves (end (steps_in J bytes)) 0 (steps_in J bytes) plan set t holds)

  -- "and an unreachable set never holds together"
  pub unreachable_is_firm : (set t : ℕ) → t ≤ end (steps_in J bytes) → time_of J T set ≡ unreachable
      → Subset set (held J.start (steps_in J bytes) t) → ⊥
  unreachable_is_firm set t l never holds =
      unreachable_set_never_holds J T solves (end (steps_in J bytes)) 0 (steps_in J bytes) plan set t never holds
