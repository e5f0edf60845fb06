-- A plan in another order has the same critical steps; put in rising order it is listed.
-- Assumes nothing.
use Prim.Native.Nat.{ℕ, ◌≤◌}
use mathlib.Core.Path.{◌≡◌, ◌∙◌}
use mathlib.Core.Bool.{true}
use mathlib.Core.List.{List}
use native.Mathlib.Omega.{arith}
use lib.ListN.{length}
use Rattle.job.specs.Job.{Job}
use Rattle.timeline.specs.Step.{Step, strictly_rising}
use Rattle.timeline.specs.Places.{Permutation}
use Rattle.timeline.specs.Keeps.{PlanOf}
use Rattle.timeline.proofs.Permutations.{permutation_member, permutation_length, plan_permuted}
use Rattle.regression.proofs.Reordered.{permutation_critical}
use Rattle.listing.proofs.CriticalExactly.{AllCritical}
use Rattle.listing.proofs.ListedPlans.{ListedBy}

module _ (J : Job) (goal T : ℕ) {R P : List Step} (o : Permutation R P) where
  pub critical_permuted : AllCritical J goal T P → AllCritical J goal T R
  critical_permuted all x Q i =
      let r = permutation_member o i in permutation_critical J goal T o x ∙ all x r.0 r.1

  pub listed_in_order : strictly_rising R ≡ true → length P ≤ 32 → PlanOf J T goal P → AllCritical J goal T P
      → ListedBy J goal T R
  listed_in_order rising few plan all =
      let same = permutation_length o in
      record {
        plan = plan_permuted J T goal o plan;
        all_critical = critical_permuted all;
        rising = rising;
        few_steps = omega arith;
      }
