-- One step of a plan replaced by another: what the other steps add and do not delete is the same.
-- Assumes nothing.
use Prim.Native.Nat.{ℕ, suc}
use mathlib.Core.Path.{◌≡◌, sym, ap, ◌∙◌}
use mathlib.Core.Bool.{true}
use mathlib.Core.Logic.{⊎_elim}
use mathlib.Core.List.{List}
use Rattle.facts.specs.FactSet.{has}
use Rattle.timeline.specs.Step.{Step}
use Rattle.timeline.specs.Timeline.{held}
use Rattle.timeline.specs.Places.{Place, EachStep}
use Rattle.timeline.proofs.Places.{place_wider, split_place}
use Rattle.timeline.proofs.HeldFacts.{Added, NotDeleted, held_when_added}
use Rattle.timeline.proofs.HeldFacts.{added_wider, added_by, not_deleted_rest, not_deleted_with}

-- P has x where P' has y
module _ {x y : Step} {Q P P' : List Step} (i : Place x Q P) (i' : Place y Q P') where
  pub each_replaced : (F : Step → Type 0) → F y → EachStep F P → EachStep F P'
  each_replaced F own h z R j =
      ⊎_elim (λ e. rw e own) (λ r. let w = place_wider i r.1 in h z w.0 w.1) (split_place i' j)

  -- a fact that a step of P adds holds then, at least if that step is not x
  pub added_still : (S t n : ℕ) → (a : Added P (suc t) n) → (a.by ≡ x → has (held S P' (suc t)) n ≡ true)
      → has (held S P' (suc t)) n ≡ true
  added_still S t n a own =
      ⊎_elim own (λ other. held_when_added S P' t n (added_wider i' (suc t) n other)) (added_by i (suc t) n a)

  pub added_elsewhere : (S t n : ℕ) → Added P (suc t) n → (x.stop ≡ suc t → ⊥) → has (held S P' (suc t)) n ≡ true
  added_elsewhere S t n a away =
      added_still S t n a (λ e. absurd (away (sym (ap (λ (z : Step). z.stop) e) ∙ a.stops)))

  -- what no step of P deletes is not deleted, unless y deletes it
  pub not_deleted_still : (t n : ℕ) → NotDeleted P t n → (y.stop ≡ t → has y.action.deletes n ≡ true → ⊥)
      → NotDeleted P' t n
  not_deleted_still t n kept own = not_deleted_with i' t n (not_deleted_rest i t n kept) own
