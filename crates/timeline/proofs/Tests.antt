-- Small laws of tests, and the order of two numbers.
-- Assumes nothing.
use Prim.Native.Nat.{ℕ, ◌<◌, ◌≤◌}
use mathlib.Core.Path.{◌≡◌, refl, sym, ◌∙◌}
use mathlib.Core.Bool.{Bool, true, false, ◌&&◌, ◌||◌, true≢false}
use mathlib.Core.Logic.{◌⊎◌, inl, inr, ⊎_elim}
use native.Mathlib.Nat.{eq-or-lt_of_le}
use lib.Dec.{eqb, ltb}
use borrow.Author.Tests.{eqb-true, eqb-false, eq-eqb, ne_eqb, ltb-true, ltb-false}

pub decided : (x : Bool) → (x ≡ true) ⊎ (x ≡ false)
decided true = inl refl
decided false = inr refl

pub not_both : {x : Bool} {A : Type 0} → x ≡ true → x ≡ false → A
not_both p q = absurd (true≢false (sym p ∙ q))

pub false_unless : (x : Bool) → (x ≡ true → ⊥) → x ≡ false
false_unless true h = absurd (h refl)
false_unless false h = refl

pub and_both : {x y : Bool} → x ≡ true → y ≡ true → (x && y) ≡ true
and_both p q = rw (p, q)

-- the second of two tests that do not both pass
pub and_other_false : (x y : Bool) → x ≡ true → (x && y) ≡ false → y ≡ false
and_other_false true y e h = h
and_other_false false y e h = not_both e refl

pub or_cases : (x y : Bool) → (x || y) ≡ true → (x ≡ true) ⊎ (y ≡ true)
or_cases true y h = inl refl
or_cases false y h = inr h

pub or_neither : {x y : Bool} → x ≡ false → y ≡ false → (x || y) ≡ false
or_neither p q = rw (p, q)

pub or_swap : (x y z : Bool) → (x || (y || z)) ≡ (y || (x || z))
or_swap true true z = refl
or_swap true false z = refl
or_swap false y z = refl

pub or_exchange : (a b c d : Bool) → ((a || b) || (c || d)) ≡ ((a || c) || (b || d))
or_exchange true b true d = refl
or_exchange true b false d = refl
or_exchange false true true d = refl
or_exchange false true false d = refl
or_exchange false false c d = refl

pub eqb_sym : (a b : ℕ) → eqb a b ≡ eqb b a
eqb_sym a b =
    ⊎_elim (λ e. e ∙ sym (eq-eqb b a (sym (eqb-true a b e))))
    (λ e. e ∙ sym (ne_eqb b a (λ q. eqb-false a b e (sym q))))
    (decided (eqb a b))

pub trichotomy : (a b : ℕ) → (a ≡ b) ⊎ ((a < b) ⊎ (b < a))
trichotomy a b =
    ⊎_elim (λ e. inr (inl (ltb-true a b e)))
    (λ e. ⊎_elim (λ q. inl (sym q)) (λ l. inr (inr l)) (eq-or-lt_of_le (ltb-false a b e)))
    (decided (ltb a b))

pub same_test : (x y : Bool) → (x ≡ true → y ≡ true) → (y ≡ true → x ≡ true) → x ≡ y
same_test true y f g = sym (f refl)
same_test false true f g = g refl
same_test false false f g = refl

pub le_or_lt : (a b : ℕ) → (a ≤ b) ⊎ (b < a)
le_or_lt a b = ⊎_elim (λ e. inr (ltb-true b a e)) (λ e. inl (ltb-false b a e)) (decided (ltb b a))
