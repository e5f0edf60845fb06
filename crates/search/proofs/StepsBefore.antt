-- The steps of a plan before a place: in a rising plan they stand first, and the others are new.
-- Assumes nothing.
use Prim.Native.Nat.{ℕ}
use mathlib.Core.Path.{◌≡◌, refl, sym, ap, ap₂, ◌∙◌}
use mathlib.Core.Bool.{Bool, true, false, cond, ◌&&◌, ◌||◌, and-false, or-false}
use mathlib.Core.Logic.{inl, inr, ⊎_elim}
use mathlib.Core.List.{List, [], ◌∷◌, ◌++◌}
use native.Mathlib.Omega.{arith}
use lib.Dec.{eqb, ltb}
use borrow.Author.Tests.{le-ltb}
use Rattle.timeline.specs.Step.{Step, strictly_rising}
use Rattle.timeline.specs.From.{From, from_minute, IsNew, IsKept, is_kept}
use Rattle.timeline.specs.Places.{here, EachStep}
use Rattle.timeline.proofs.Tests.{not_both, false_unless}
use Rattle.timeline.proofs.Places.{each_step, each_cons, each_rest}
use Rattle.timeline.proofs.NewSteps.{new_or_kept, not_new_and_kept, is_kept_reads, is_kept_when}
use Rattle.timeline.proofs.Rising.{Before, rising_rest, rising_before, before_reads}
use Rattle.makespan.specs.Makespan.{begun}
use Rattle.search.specs.Search.{steps_before}

module _ (b : From) where
  -- a step behind a new one is new
  new_behind : (x y : Step) → Before x y → IsNew b x → IsNew b y
  new_behind x y (inl l) (inl n) = inl (omega arith)
  new_behind x y (inl l) (inr n) = let e = n.0 in inl (omega arith)
  new_behind x y (inr l) (inl n) = let e = l.0 in inl (omega arith)
  new_behind x y (inr l) (inr n) =
      let e = l.0 in
      let f = n.0 in
      let less = l.1 in
      let most = n.1 in
      inr (omega arith, omega arith)

  new_when_not_kept : (x : Step) → is_kept b x ≡ false → IsNew b x
  new_when_not_kept x h = ⊎_elim (λ n. n) (λ k. not_both (is_kept_when b x k) h) (new_or_kept b x)

  none_before : (P : List Step) → EachStep (IsNew b) P → steps_before b P ≡ []
  none_before [] new = refl
  none_before (x ∷ P) new =
      let none = false_unless (is_kept b x) (λ k. not_new_and_kept b x (new x P here) (is_kept_reads b x k)) in
      ap (λ (t : Bool). cond t (x ∷ steps_before b P) (steps_before b P)) none
      ∙ none_before P (each_rest (IsNew b) x P new)

  pub rising_splits : (P : List Step) → strictly_rising P ≡ true
      → (N : List Step) × (P ≡ steps_before b P ++ N) × EachStep (IsNew b) N
  rising_splits [] h = ([], refl, each_step (IsNew b) [] tt)
  rising_splits (x ∷ P) h = go (is_kept b x) refl (rising_splits P (rising_rest x P h))
    where
      go : (test : Bool) → is_kept b x ≡ test → (N : List Step) × (P ≡ steps_before b P ++ N) × EachStep (IsNew b) N
          → (N : List Step) × (x ∷ P ≡ cond test (x ∷ steps_before b P) (steps_before b P) ++ N) × EachStep (IsNew b) N
      go true e r = (r.0, ap (λ (Q : List Step). x ∷ Q) r.1, r.2)
      go false e r =
          let first = new_when_not_kept x e in
          let new : EachStep (IsNew b) P =
          λ y Q i. new_behind x y (before_reads x y (rising_before x P h y Q i)) first in (
            x ∷ P,
            sym (ap (λ (Q : List Step). Q ++ (x ∷ P)) (none_before P new)),
            each_cons (IsNew b) x P first new,
          )

  pub before_are_kept : (P : List Step) → EachStep (IsKept b) (steps_before b P)
  before_are_kept [] = each_step (IsKept b) [] tt
  before_are_kept (x ∷ P) = go (is_kept b x) refl (before_are_kept P)
    where
      go : (test : Bool) → is_kept b x ≡ test → EachStep (IsKept b) (steps_before b P)
          → EachStep (IsKept b) (cond test (x ∷ steps_before b P) (steps_before b P))
      go true e r = each_cons (IsKept b) x (steps_before b P) (is_kept_reads b x e) r
      go false e r = r

-- before the place of a minute they are the begun ones
pub before_minute_begun : (minute : ℕ) (P : List Step) → steps_before (from_minute minute) P ≡ begun minute P
before_minute_begun minute [] = refl
before_minute_begun minute (x ∷ P) =
    ap₂ (λ (test : Bool) (Q : List Step). cond test (x ∷ Q) Q) same (before_minute_begun minute P)
  where
    same : is_kept (from_minute minute) x ≡ ltb x.start minute
    same =
        ap (λ (t : Bool). ltb x.start minute || (eqb x.start minute && t)) (le-ltb x.number 0 (omega arith))
        ∙ ap (λ (t : Bool). ltb x.start minute || t) (and-false (eqb x.start minute))
        ∙ or-false (ltb x.start minute)
