-- The earliest times of the rest bound what holds in the begun day.
-- Assumes nothing.
use Prim.Native.Nat.{ℕ, ◌+◌, ◌-◌, ◌<◌, ◌≤◌}
use mathlib.Core.Path.{◌≡◌}
use mathlib.Core.List.{List, ◌++◌}
use native.Mathlib.Omega.{arith}
use Rattle.facts.specs.FactSet.{Subset}
use Rattle.job.specs.Job.{Job}
use Rattle.timeline.specs.Step.{Step}
use Rattle.timeline.specs.Timeline.{held}
use Rattle.timeline.specs.Places.{EachStep}
use Rattle.timeline.specs.Keeps.{PlanOf}
use Rattle.times.specs.Time.{at}
use Rattle.times.specs.Earliest.{Table, time_of, Solves}
use Rattle.times.specs.Choices.{By}
use Rattle.times.proofs.Admissible.{held_set_not_before_its_time}
use Rattle.times.proofs.Firm.{number_by}
use Rattle.begun.specs.RestOfDay.{rest_of_job, rest_of_plan}
use Rattle.begun.proofs.RestPlan.{rest_holds_the_same, rest_is_a_day}

module _ (J : Job) (M T goal : ℕ) (K : List Step) (kept : EachStep (λ x. x.start < M) K) (in_time : M ≤ T)
    (times : Table) (solves : Solves (rest_of_job J M K) times) (set m : ℕ) (later : M ≤ m) where
  pub rest_times_bound : (N : List Step) → EachStep (λ x. M ≤ x.start) N → PlanOf J T goal (N ++ K)
      → Subset set (held J.start (N ++ K) m) → By (time_of (rest_of_job J M K) times set) (m - M)
  rest_times_bound N new plan inside =
      let same : M + (m - M) ≡ m = omega arith in
      held_set_not_before_its_time (rest_of_job J M K) times solves (T - M) goal (rest_of_plan J M N K)
      (rest_is_a_day J M T goal N K plan new kept in_time) set (m - M)
      (λ f h. rw (rest_holds_the_same J M T goal N K plan new kept (m - M), same) (inside f h))

  -- a firm "not before" (document 02, l): the minute is not before the one replanned from and the set's time in the rest
  pub rest_time_is_firm : (N : List Step) → EachStep (λ x. M ≤ x.start) N → PlanOf J T goal (N ++ K)
      → Subset set (held J.start (N ++ K) m) → (x : ℕ) × (time_of (rest_of_job J M K) times set ≡ at x) × (M + x ≤ m)
  rest_time_is_firm N new plan inside =
      let firm =
      number_by (time_of (rest_of_job J M K) times set) (m - M) (rest_times_bound N new plan inside) in
      let in_rest : firm.0 ≤ m - M = firm.2 in
      (firm.0, firm.1, omega arith)
