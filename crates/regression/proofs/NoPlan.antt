-- What the search concludes: where the chosen steps alone are refused, they are a dead end; where the kept steps are a
-- dead end from the start, no accepted plan has them.
-- Assumes nothing.
use Prim.Native.Nat.{ℕ, ◌<◌, ◌≤◌}
use mathlib.Core.Path.{◌≡◌}
use mathlib.Core.Bool.{true}
use mathlib.Core.List.{List, [], ◌∷◌, ◌++◌}
use native.Mathlib.Omega.{arith}
use lib.ListN.{length}
use Rattle.job.specs.Job.{Job}
use Rattle.job.specs.Refusal.{first}
use Rattle.job.specs.Passed.{Passed}
use Rattle.job.specs.Refusal.{pass}
use Rattle.timeline.specs.Step.{Step, strictly_rising}
use Rattle.timeline.specs.From.{From, IsNew, IsKept}
use Rattle.timeline.specs.Timeline.{end}
use Rattle.timeline.specs.Accepted.{step_rows}
use Rattle.timeline.specs.Places.{here, EachStep, Permutation}
use Rattle.timeline.specs.Keeps.{OfJob, PlanOf}
use Rattle.timeline.proofs.Places.{place_append}
use Rattle.timeline.proofs.NewSteps.{new_from_minute}
use Rattle.timeline.proofs.AcceptedSteps.{accepted_steps}
use Rattle.timeline.proofs.Keeps.{keeps_of_accepted}
use Rattle.timeline.proofs.JobSteps.{lasting_of_known}
use Rattle.timeline.proofs.Permutations.{permutation_sym, permutation_each, permutation_keeps, permutation_length}
use Rattle.timeline.proofs.Rising.{AllApart}
use Rattle.regression.specs.DeadEnd.{NormalPlan, Until, Dead}
use Rattle.regression.proofs.NormalPlans.{normal_plan_exists, normal_plan_apart, normal_plan_accepted}

module _ (J : Job) (b : From) (goal T : ℕ) where
  -- ---- nothing is left to choose
  -- where no new step can stop by t, what holds of no normal plan of the steps L is a dead end
  dead_when_none_left : (t : ℕ) → t ≤ b.minute → (L : List Step) → (NormalPlan J b goal T L → ⊥)
      → Dead J b goal T (Until b t) L
  dead_when_none_left t l L none [] h p = none p
  dead_when_none_left t l L none (x ∷ E) h p =
      let u = h x E here in let a = new_from_minute b x u.0 in let c = u.1 in let d = u.2 in omega arith

  -- R is L in rising order, and it is refused or ends after T
  pub dead_when_refused : T ≤ J.deadline → (t : ℕ) → t ≤ b.minute → (L R : List Step) → Permutation R L
      → (AllApart L → strictly_rising R ≡ true) → (first (step_rows J goal R) ≡ pass → end R ≤ T → ⊥)
      → Dead J b goal T (Until b t) L
  dead_when_refused d t l L R o rising refused =
      dead_when_none_left t l L
      (λ p.
      let accepted = normal_plan_accepted J b goal T d o (rising (normal_plan_apart J b goal T p)) p in
      refused accepted.0 accepted.1)

  -- ---- no plan
  -- R is an accepted plan of the new steps P and the kept steps K
  pub no_plan_when_dead : Passed J → (P K R : List Step) → Permutation R (P ++ K) → EachStep (OfJob J) R
      → EachStep (IsNew b) P → EachStep (IsKept b) K → length R ≤ 32
      → first (step_rows J goal R) ≡ pass → end R ≤ T → Dead J b goal T (Until b T) K → ⊥
  no_plan_when_dead passed P K R o own new kept few pass l dead =
      let Known : Step → Type 0 = λ x. x.number < length J.actions in
      let known = (accepted_steps J goal R pass).known in
      let keeps = keeps_of_accepted J goal R T (lasting_of_known J R passed own known) pass l in
      let back = permutation_sym o in
      let same = permutation_length o in
      let plan : PlanOf J T goal (P ++ K)
      = record {
        keeps = permutation_keeps J T goal back keeps;
        own = permutation_each (OfJob J) back own;
        known = permutation_each Known back known;
      } in
      let normal = normal_plan_exists J b goal T passed P K plan new kept (omega arith) in
      let F : List Step = normal.0 in
      let n = normal.2.plan.keeps in
      dead F
      (λ x Q i.
      let j = place_append K i in
      (normal.1 x Q i, n.lasting x (Q ++ K) j, n.in_time x (Q ++ K) j))
      normal.2
