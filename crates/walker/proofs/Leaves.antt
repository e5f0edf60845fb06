-- What the leaf says of steps: where it finds a plan they are one, and where it finds none they are none.
-- Assumes nothing.
use Rattle.std.specs.Prelude.{Option, Some, None, is_some}
use Prim.Native.Nat.{ℕ, suc, ◌≤◌}
use mathlib.Core.Path.{◌≡◌}
use mathlib.Core.Bool.{true, false}
use mathlib.Core.List.{List, []}
use native.Mathlib.Omega.{arith}
use lib.ListN.{length}
use Rattle.facts.specs.FactSet.{foreign}
use Rattle.job.specs.Job.{Job}
use Rattle.job.specs.Passed.{Passed}
use Rattle.timeline.specs.Step.{Step}
use Rattle.timeline.specs.From.{From, from_minute, IsNew}
use Rattle.timeline.specs.Places.{Place}
use Rattle.timeline.specs.Keeps.{PlanOf}
use Rattle.timeline.proofs.Places.{each_step}
use Rattle.timeline.proofs.NewSteps.{new_from_minute}
use Rattle.timeline.proofs.Permutations.{permutation_sym, plan_permuted}
use Rattle.times.proofs.PlanSteps.{plan_of_accepted}
use Rattle.regression.specs.DeadEnd.{NormalPlan, Until}
use Rattle.regression.proofs.NormalPlans.{own_effects}
use Rattle.tables.specs.Tables.{Known, chosen}
use Rattle.tables.specs.declared.Frame.{Frame}
use Rattle.tables.specs.declared.Steps.{Steps}
use Rattle.leaf.specs.declared.Answer.{Answer}
use Rattle.leaf.specs.Answer.{FileOf, Finishes, bytes_in}
use Rattle.states.proofs.Chosen.{length_chosen}
use Rattle.walker.specs.Walk.{Kept}

pub known_steps : (J : Job) (frame : Frame) → length J.actions ≡ frame.actions → (steps : Steps) → Kept frame steps
    → Known (length J.actions) steps
known_steps J frame actions steps kept = rw actions kept.known

module _ (J : Job) (file : List ℕ) (frame : Frame) (in_file : FileOf J file frame.start frame.supplies)
    (actions : length J.actions ≡ frame.actions) (passed : Passed J) (steps : Steps) (kept : Kept frame steps)
    (r : Option Answer) (finishes : Finishes file frame steps r) where
  known : Known (length J.actions) steps
  known = known_steps J frame actions steps kept

  pub plan_when_found : (a : Answer) → r ≡ Some a → PlanOf J frame.horizon frame.goal (chosen J steps)
  plan_when_found a e =
      let found = finishes.found a e J in_file in
      let end = found.end in
      let soon = found.in_time in
      plan_permuted J frame.horizon frame.goal (permutation_sym (finishes.same a e J in_file known kept.starts))
      (plan_of_accepted J frame.goal (bytes_in a) frame.horizon passed found.accepted (omega arith))

  abbrev late : From
  late = from_minute (suc frame.horizon)

  -- a plan of these steps alone is normal, where all of them are kept
  module _ (plan : PlanOf J frame.horizon frame.goal (chosen J steps)) where
    none_new : (x : Step) (Q : List Step) → Place x Q (chosen J steps) → IsNew late x → ⊥
    none_new x Q i new =
        let from = new_from_minute late x new in
        let lasts = plan.keeps.lasting x Q i in
        let soon = plan.keeps.in_time x Q i in
        omega arith

    normal : NormalPlan J late frame.goal frame.horizon (chosen J steps)
    normal =
        record {
          plan = plan;
          critical_facts = λ x Q i new. absurd (none_new x Q i new);
          blocked_steps = λ x Q i new. absurd (none_new x Q i new);
          effects = λ x Q i. own_effects J passed x (plan.own x Q i) (plan.known x Q i);
          few_steps = let n = length_chosen J steps steps.count in let few = kept.known.few in omega arith;
        }

  pub no_plan_when_none : foreign J.facts frame.goal ≡ false → frame.horizon ≤ J.deadline
      → r ≡ None → PlanOf J frame.horizon frame.goal (chosen J steps) → ⊥
  no_plan_when_none goal in_time e plan =
      finishes.dead e J in_file (record { goal = goal; in_time = in_time; known = known }) late 0 (omega arith) []
      (each_step (Until late 0) [] tt) (normal plan)
