-- Sets digit by digit: an operation that works on each digit by itself, read by membership. For Membership alone.
-- Assumes nothing.
use Prim.Native.Nat.{ℕ, zero, suc, ◌+◌, ◌*◌, ◌/◌, ◌%◌}
use mathlib.Core.Path.{◌≡◌, refl, ◌∙◌}
use mathlib.Core.Bool.{Bool, true, false}
use native.Mathlib.Omega.{arith}
use lib.Dec.{eqb}
use borrow.Author.Tests.{eqb-true, eqb-false, eq-eqb, ne_eqb}
use Rattle.facts.specs.FactSet.{has}

-- the digit that says whether a fact is in the set
abbrev pub digit : Bool → ℕ
digit true = 1
digit false = 0

pub lowest_digit : (a : ℕ) → a % 2 ≡ digit (has a 0)
unfolding has
lowest_digit a = go (eqb (a % 2) 1) refl
  where
    go : (x : Bool) → eqb (a % 2) 1 ≡ x → a % 2 ≡ digit x
    go true e = eqb-true (a % 2) 1 e
    go false e = let other = eqb-false (a % 2) 1 e in omega arith

-- a number put together from its half and a digit
has_lowest : (half : ℕ) (x : Bool) → has (half * 2 + digit x) 0 ≡ x
unfolding has
has_lowest half true = eq-eqb ((half * 2 + 1) % 2) 1 (omega arith)
has_lowest half false = ne_eqb ((half * 2 + 0) % 2) 1 (λ e. omega arith)

half_of : (half : ℕ) (x : Bool) → (half * 2 + digit x) / 2 ≡ half
half_of half true = omega arith
half_of half false = omega arith

-- g works on each digit by itself: as f on the digits, which is t on the membership
module _ (g f : ℕ → ℕ → ℕ) (t : Bool → Bool → Bool)
    (step : (a b : ℕ) → g a b ≡ g (a / 2) (b / 2) * 2 + f (a % 2) (b % 2))
    (on_digits : (x y : Bool) → f (digit x) (digit y) ≡ digit (t x y)) where
  halved : (a b : ℕ) → g a b ≡ g (a / 2) (b / 2) * 2 + digit (t (has a 0) (has b 0))
  halved a b = step a b ∙ rw (lowest_digit a, lowest_digit b, on_digits (has a 0) (has b 0))

  pub by_digits : (a b n : ℕ) → has (g a b) n ≡ t (has a n) (has b n)
  unfolding has
  by_digits a b zero = rw (halved a b) (has_lowest (g (a / 2) (b / 2)) (t (has a 0) (has b 0)))
  by_digits a b (suc n) =
      rw (halved a b, half_of (g (a / 2) (b / 2)) (t (has a 0) (has b 0))) (by_digits (a / 2) (b / 2) n)
