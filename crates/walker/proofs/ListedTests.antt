-- Whether steps in rising order are listed: they are a plan, and without any one of them they are none.
-- Assumes nothing.
use Prim.Native.Nat.{ℕ, ◌<◌, ◌≤◌}
use mathlib.Core.Path.{◌≡◌, sym, ap, ◌∙◌, subst}
use mathlib.Core.List.{List}
use native.Mathlib.Omega.{arith}
use lib.ListN.{length}
use Rattle.job.specs.Job.{Job}
use Rattle.timeline.specs.Step.{Step, steps_in, plan_bytes}
use Rattle.timeline.specs.Places.{Place, Permutation}
use Rattle.timeline.specs.Keeps.{OfJob, PlanOf}
use Rattle.timeline.proofs.Places.{each_wider}
use Rattle.timeline.proofs.AcceptedSteps.{accepted_steps}
use Rattle.timeline.proofs.JobSteps.{steps_of_accepted}
use Rattle.timeline.proofs.Permutations.{permutation_sym, permutation_trans, permutation_member, plan_permuted}
use Rattle.timeline.proofs.Rising.{rising_same_members}
use Rattle.tables.specs.Tables.{chosen}
use Rattle.tables.specs.declared.Frame.{Frame}
use Rattle.tables.specs.declared.Steps.{Steps}
use Rattle.leaf.specs.declared.Answer.{Answer}
use Rattle.leaf.specs.Answer.{Found, bytes_in}
use Rattle.leaf.specs.Order.{placed, in_order}
use Rattle.leaf.proofs.InOrder.{in_order_permutes}
use Rattle.states.proofs.Chosen.{length_chosen}
use Rattle.listing.specs.Listed.{Listed}
use Rattle.listing.proofs.CriticalExactly.{NoneSpare, critical_exactly}
use Rattle.listing.proofs.ListedPlans.{ListedBy, listed_by_steps, listed_of_steps}
use Rattle.listing.proofs.InOrder.{critical_permuted, listed_in_order}
use Rattle.walker.specs.Walk.{AskedOf, Kept, Rising, PlanWithout, Tells}
use Rattle.walker.proofs.Dropping.{rest_of_steps, place_has_index, same_rest}

module _ (J : Job) (file : List ℕ) (frame : Frame) (asked : AskedOf J file frame) (steps : Steps)
    (kept : Kept frame steps) (rising : Rising J steps) where
  abbrev T : ℕ
  T = frame.horizon

  abbrev goal : ℕ
  goal = frame.goal

  order : Permutation (in_order J steps) (chosen J steps)
  order = in_order_permutes J steps

  few : length (chosen J steps) ≤ 32
  few = let n = length_chosen J steps steps.count in let l = kept.known.few in omega arith

  module _ (plan : PlanOf J T goal (chosen J steps)) where
    -- without a step, wherever it stands, they are the steps without it
    none_spare_lem : ((i : ℕ) → i < steps.count → PlanWithout J frame steps i → ⊥) → NoneSpare J goal T (chosen J steps)
    none_spare_lem none x Q i keeps =
        let at = place_has_index J steps steps.count i in
        let rest = rest_of_steps J steps kept.known.numbers kept.known.starts kept.known.few at.0
        at.1 in
        let place : Place x rest.rest (chosen J steps)
        = subst (λ (y : Step). Place y rest.rest (chosen J steps)) (sym at.2) rest.place in
        none at.0 at.1
        (plan_permuted J T goal (permutation_trans rest.same (same_rest place i))
        (record {
          keeps = keeps;
          own = each_wider (OfJob J) i plan.own;
          known = each_wider (λ y. y.number < length J.actions) i plan.known;
        }))

    pub listed_when_none_dropped : ((i : ℕ) → i < steps.count → PlanWithout J frame steps i → ⊥)
        → Listed J goal (in_order J steps)
    listed_when_none_dropped none =
        listed_of_steps J goal T asked.passed asked.shortest (in_order J steps)
        (listed_in_order J goal T order rising few plan
        ((critical_exactly J goal T (chosen J steps) plan.keeps).0 (none_spare_lem none)))

  module _ (listed : Listed J goal (in_order J steps)) where
    by : ListedBy J goal T (in_order J steps)
    by = listed_by_steps J goal T asked.passed asked.shortest (in_order J steps) listed

    pub plan_when_listed : PlanOf J T goal (chosen J steps)
    plan_when_listed = plan_permuted J T goal (permutation_sym order) by.plan

    pub none_dropped_when_listed : (i : ℕ) → i < steps.count → PlanWithout J frame steps i → ⊥
    none_dropped_when_listed i below plan =
        let rest = rest_of_steps J steps kept.known.numbers kept.known.starts kept.known.few i below in
        (critical_exactly J goal T (chosen J steps) plan_when_listed.keeps
        ).1 (critical_permuted J goal T (permutation_sym order) by.all_critical) (placed J steps i) rest.rest
        rest.place (plan_permuted J T goal (permutation_sym rest.same) plan).keeps

  -- the answer has them in order
  pub tells_of_steps : (r : Answer) → Found J goal T r → Permutation (steps_in J (bytes_in r)) (chosen J steps)
      → bytes_in r ≡ plan_bytes (steps_in J (bytes_in r)) → Tells J goal T r (in_order J steps)
  tells_of_steps r found same bytes =
      let P : List Step = steps_in J (bytes_in r) in
      let risen = (accepted_steps J goal P (steps_of_accepted J goal (bytes_in r) found.accepted)).rising in
      let both = permutation_trans same (permutation_sym order) in
      let is : P ≡ in_order J steps =
      rising_same_members P (in_order J steps) risen rising (λ x Q i. permutation_member both i)
      (λ x Q i. permutation_member (permutation_sym both) i) in
      record { found = found; steps = is; bytes = bytes ∙ ap plan_bytes is }
