-- A day joined from two accepted halves is accepted, and never ends before the shortest whole day.
-- Assumes nothing.
use Prim.Native.Nat.{ℕ, ◌≤◌}
use mathlib.Core.Path.{◌≡◌, refl, sym, ap, ◌∙◌}
use mathlib.Core.Bool.{false}
use mathlib.Core.List.{List, []}
use native.Mathlib.Omega.{arith}
use Rattle.job.specs.Job.{Job}
use Rattle.job.specs.Passed.{Passed}
use Rattle.job.specs.Refusal.{first}
use Rattle.job.specs.Refusal.{pass}
use Rattle.timeline.specs.Step.{Step, steps_in, plan_bytes}
use Rattle.timeline.specs.Timeline.{end}
use Rattle.timeline.specs.Accepted.{Accepted, step_rows}
use Rattle.timeline.proofs.AcceptedSteps.{accepted_steps}
use Rattle.timeline.proofs.JobSteps.{lasting_of_known, steps_in_bytes, steps_of_accepted}
use Rattle.timeline.proofs.PlanBytes.{accepted_bytes_of_steps}
use Rattle.makespan.specs.Makespan.{Makespan, ends_at, no_plan, makespan}
use Rattle.makespan.proofs.LeastEnds.{least_end_of_makespan, none_accepted_when_no_plan, every_plan_counts}
use Rattle.makespan.proofs.LeastEnds.{nothing_begun}
use Rattle.joining.specs.Join.{largest_handover, join_steps, joined_steps, too_long}
use Rattle.joining.proofs.JoinedShape.{few_unless_too_long}
use Rattle.joining.proofs.LaterSteps.{owns_joined}
use Rattle.halving.specs.Afternoon.{afternoon}
use Rattle.halving.proofs.Afternoons.{afternoon_steps_in}
use Rattle.halving.proofs.JoinedKeeps.{joined_keeps}

module _ (J : Job) (halfway goal : ℕ) (first_half_lem second_half_lem : List ℕ) (passed : Passed J)
    (first_accepted : Accepted J halfway first_half_lem)
    (second_accepted : Accepted (afternoon J (steps_in J first_half_lem)) goal second_half_lem)
    (short : too_long J (joined_steps J first_half_lem second_half_lem) ≡ false) where
  abbrev A : List Step
  A = steps_in J first_half_lem

  abbrev B : List Step
  B = steps_in J second_half_lem

  first_passes : first (step_rows J halfway A) ≡ pass
  first_passes = steps_of_accepted J halfway first_half_lem first_accepted

  second_passes : first (step_rows (afternoon J A) goal B) ≡ pass
  second_passes =
      ap (λ (P : List Step). first (step_rows (afternoon J A) goal P))
      (sym (afternoon_steps_in J A second_half_lem))
      ∙ steps_of_accepted (afternoon J A) goal second_half_lem second_accepted

  -- the joined day, in bytes, is accepted for the goal by the whole job; its steps are those joined
  pub joined_halves_accepted : Accepted J goal (plan_bytes (joined_steps J first_half_lem second_half_lem))
      × (steps_in J (plan_bytes (joined_steps J first_half_lem second_half_lem)) ≡ joined_steps J first_half_lem second_half_lem)
  joined_halves_accepted =
      let own_a = steps_in_bytes J first_half_lem in
      let own_b = steps_in_bytes J second_half_lem in
      let day = join_steps (largest_handover J) A B in
      accepted_bytes_of_steps J goal day passed (owns_joined J (largest_handover J) A B own_a own_b)
      (few_unless_too_long J day short)
      (joined_keeps J halfway goal A B
      (lasting_of_known J A passed own_a (accepted_steps J halfway A first_passes).known)
      (lasting_of_known J B passed own_b (accepted_steps (afternoon J A) goal B second_passes).known)
      first_passes second_passes short)

  -- there is a shortest whole day, and the joined day does not end before it
  pub joined_not_before_shortest : (e : ℕ) × (makespan J goal ≡ ends_at e)
      × (e ≤ end (joined_steps J first_half_lem second_half_lem))
  joined_not_before_shortest = go (makespan J goal) refl
    where
      go : (m : Makespan) → makespan J goal ≡ m → (e : ℕ) × (makespan J goal ≡ ends_at e)
          × (e ≤ end (joined_steps J first_half_lem second_half_lem))
      go (ends_at e) h =
          let bytes = plan_bytes (joined_steps J first_half_lem second_half_lem) in
          let least = (least_end_of_makespan J goal 0 [] passed (nothing_begun J) e h).least bytes
          joined_halves_accepted.0 (every_plan_counts J bytes) in
          let same = ap end joined_halves_accepted.1 in
          (e, h, omega arith)
      go no_plan h =
          let bytes = plan_bytes (joined_steps J first_half_lem second_half_lem) in
          absurd (none_accepted_when_no_plan J goal 0 [] passed h bytes joined_halves_accepted.0
          (every_plan_counts J bytes))
