-- New and kept steps: every step is one of both, and none is both.
-- Assumes nothing.
use Prim.Native.Nat.{ℕ, ◌+◌, ◌≤◌}
use mathlib.Core.Path.{◌≡◌}
use mathlib.Core.Bool.{true, or-true}
use mathlib.Core.Logic.{◌⊎◌, inl, inr, ⊎_elim}
use mathlib.Core.List.{List, ◌++◌}
use native.Mathlib.Omega.{arith}
use lib.Dec.{eqb, ltb}
use borrow.Author.Tests.{eqb-true, eq-eqb, ltb-true, lt-ltb}
use Rattle.lists.proofs.Bools.{and_left, and_right}
use Rattle.timeline.specs.Step.{Step}
use Rattle.timeline.specs.From.{From, IsNew, IsKept, is_kept, FitsFrom}
use Rattle.timeline.specs.Places.{EachStep}
use Rattle.timeline.proofs.Tests.{or_cases, and_both, trichotomy, le_or_lt}
use Rattle.timeline.proofs.Places.{append_cases}
use Rattle.timeline.proofs.Shift.{later}

module _ (b : From) (x : Step) where
  pub new_or_kept : IsNew b x ⊎ IsKept b x
  new_or_kept =
      ⊎_elim
      (λ same. ⊎_elim (λ l. inl (inr (same, l))) (λ l. inr (inr (same, l))) (le_or_lt b.number x.number))
      (⊎_elim (λ l. inr (inl l)) (λ l. inl (inl l)))
      (trichotomy x.start b.minute)

  pub not_new_and_kept : IsNew b x → IsKept b x → ⊥
  not_new_and_kept (inl n) (inl k) = omega arith
  not_new_and_kept (inl n) (inr k) = let e = k.0 in omega arith
  not_new_and_kept (inr n) (inl k) = let e = n.0 in omega arith
  not_new_and_kept (inr n) (inr k) = let l = n.1 in let m = k.1 in omega arith

  pub new_from_minute : IsNew b x → b.minute ≤ x.start
  new_from_minute (inl n) = omega arith
  new_from_minute (inr n) = let e = n.0 in omega arith

  -- a step a minute later is still new
  pub new_later : IsNew b x → IsNew b (later x)
  new_later new = let l = new_from_minute new in inl (omega arith)

  pub is_kept_reads : is_kept b x ≡ true → IsKept b x
  is_kept_reads h =
      ⊎_elim (λ e. inl (ltb-true x.start b.minute e))
      (λ e.
      inr (
        eqb-true x.start b.minute (and_left _ _ e),
        ltb-true x.number b.number (and_right (eqb x.start b.minute) _ e),
      ))
      (or_cases (ltb x.start b.minute) _ h)

  pub is_kept_when : IsKept b x → is_kept b x ≡ true
  is_kept_when (inl k) = rw (lt-ltb x.start b.minute k)
  is_kept_when (inr k) =
      rw (and_both (eq-eqb x.start b.minute k.0) (lt-ltb x.number b.number k.1))
      (or-true (ltb x.start b.minute))

-- ---- a step that stops at minute t
module _ (b : From) (number duration t : ℕ) where
  pub fits_by : FitsFrom b number duration t → b.minute + duration ≤ t
  fits_by (inl l) = omega arith
  fits_by (inr e) = let same = e.0 in omega arith

  pub new_of_fits : (x : Step) → x.number ≡ number → x.start + duration ≡ t → FitsFrom b number duration t → IsNew b x
  new_of_fits x e stops (inl l) = inl (omega arith)
  new_of_fits x e stops (inr f) = let same = f.0 in let l = f.1 in inr (omega arith, omega arith)

  pub fits_of_new : (x : Step) → x.number ≡ number → x.start + duration ≡ t → IsNew b x → FitsFrom b number duration t
  fits_of_new x e stops (inl l) = inl (omega arith)
  fits_of_new x e stops (inr n) = let same = n.0 in let l = n.1 in inr (omega arith, omega arith)

-- ---- lists of new steps
pub new_both_from_minute : (b : From) (P Q : List Step) → EachStep (IsNew b) P → EachStep (IsNew b) Q
    → EachStep (λ x. b.minute ≤ x.start) (P ++ Q)
new_both_from_minute b P Q p q x R i =
    new_from_minute b x
    (⊎_elim (λ r. p x r.0 r.1) (λ r. q x r.0 r.1) (append_cases P Q i))
