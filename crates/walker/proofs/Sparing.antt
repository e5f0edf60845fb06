-- No listed plan begins with steps of which one is spare.
-- Assumes nothing.
use Prim.Native.Nat.{ℕ, ◌<◌}
use mathlib.Core.Path.{sym, ap, ◌∙◌, subst}
use mathlib.Core.Logic.{⊎_elim}
use mathlib.Core.List.{List, ◌++◌}
use native.Mathlib.Omega.{arith}
use lib.ListN.{get_or}
use Rattle.facts.specs.FactSet.{has}
use Rattle.job.specs.Job.{Job}
use Rattle.timeline.specs.Step.{Step}
use Rattle.timeline.specs.Places.{Member}
use Rattle.timeline.proofs.Tests.{not_both}
use Rattle.timeline.proofs.Places.{place_append}
use Rattle.timeline.proofs.Permutations.{permutation_sym, permutation_member}
use Rattle.tables.specs.Tables.{Describes, DescribesAction}
use Rattle.tables.specs.declared.Frame.{Frame}
use Rattle.tables.specs.declared.Steps.{Steps}
use Rattle.leaf.specs.Order.{placed, in_order}
use Rattle.leaf.proofs.InOrder.{in_order_permutes}
use Rattle.listing.specs.Begins.{Begins}
use Rattle.listing.proofs.ListedPlans.{listed_by_steps}
use Rattle.listing.proofs.Tails.{critical_in_time}
use Rattle.tails.specs.Tails.{TailTable}
use Rattle.walker.specs.Walk.{AskedOf, Kept, NoneBegins}
use Rattle.walker.specs.Spare.{Spare}
use Rattle.walker.proofs.TailLaws.{tails_of_table}
use Rattle.walker.proofs.Dropping.{rest_of_steps}

module _ (J : Job) (file sets numbers : List ℕ) (frame : Frame) (asked : AskedOf J file frame)
    (described : Describes J sets numbers frame) (tails : List ℕ)
    (table : TailTable sets numbers frame.actions frame.goal tails) (steps : Steps) (kept : Kept frame steps) where
  -- each of the steps is one of a plan that begins with them
  in_plan_lem : (i : ℕ) → i < steps.count → (P : List Step) → Begins (in_order J steps) P → Member (placed J steps i) P
  in_plan_lem i below P begins =
      let known = kept.known in
      let rest = rest_of_steps J steps known.numbers known.starts known.few i below in
      let m = permutation_member (permutation_sym (in_order_permutes J steps)) rest.place in
      subst (Member (placed J steps i)) (sym begins.1) (m.0 ++ begins.0, place_append begins.0 m.1)

  action_in_tables : (i : ℕ) → i < steps.count → DescribesAction J sets numbers (get_or steps.numbers i 0)
  action_in_tables i below = described.each _ (kept.known.known i below)

  pub none_begins_when_spare : (i : ℕ) → i < steps.count → Spare sets numbers tails frame.horizon steps i
      → NoneBegins J frame steps
  none_begins_when_spare i below spare P listed begins =
      let T = frame.horizon in
      let by = listed_by_steps J frame.goal T asked.passed asked.shortest P listed in
      let own = in_plan_lem i below P begins in
      let found = critical_in_time J frame.goal T P by.plan by.all_critical (λ p. get_or tails p 0)
      (tails_of_table J sets numbers frame described tails table) {y = placed J steps i} own.1 in
      let d = action_in_tables i below in
      let lasts = d.duration in
      ⊎_elim
      (λ a.
      let other = in_plan_lem a.step a.below P begins in
      let e = action_in_tables a.step a.below in
      let runs = e.duration in
      let after = a.so.after in
      let soon = a.so.by in
      not_both (sym (ap (λ (set : ℕ). has set found.fact) e.adds) ∙ a.so.adds)
      (found.alone (placed J steps a.step) other.0 other.1 a.so.other (omega arith) (omega arith)))
      (λ late. let soon = found.soon in omega arith)
      (spare found.fact (rw d.adds found.adds))
