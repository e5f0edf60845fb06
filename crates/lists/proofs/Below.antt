-- A test of the numbers below n.
-- Assumes nothing.
use Prim.Native.Nat.{ℕ, zero, suc, ◌+◌, ◌≤◌, ◌<◌}
use mathlib.Core.Path.{◌≡◌, refl, ap, ap₂, ◌∙◌}
use mathlib.Core.Bool.{Bool, true, false, ◌&&◌, ◌||◌, or_comm}
use mathlib.Core.Logic.{⊎_elim}
use native.Mathlib.Nat.{eq-or-lt_of_le}
use native.Mathlib.Omega.{arith}
use lib.Dec.{ltb}
use borrow.Author.Tests.{lt-ltb, le-ltb}
use Rattle.lists.specs.Lists.{tabulate, any, any_below}
use Rattle.lists.proofs.Any.{any_next}
use Rattle.lists.proofs.Bools.{absurd, or_left, or_right, or-true}

pub below_none : (n : ℕ) (test : ℕ → Bool) → any_below n test ≡ false → (k : ℕ) → k < n → test k ≡ false
below_none zero test h k l = absurd (omega arith)
below_none (suc n) test h k l =
    ⊎_elim (λ e. let z : k ≡ n = omega arith in rw z (or_left (test n) (any_below n test) h))
    (λ e. below_none n test (or_right (test n) (any_below n test) h) k (omega arith))
    (eq-or-lt_of_le l)

pub none_below : (n : ℕ) (test : ℕ → Bool) → ((k : ℕ) → k < n → test k ≡ false) → any_below n test ≡ false
none_below zero test h = refl
none_below (suc n) test h = rw (h n (omega arith), none_below n test (λ k l. h k (omega arith)))

pub below_some : (n : ℕ) (test : ℕ → Bool) → any_below n test ≡ true → (k : ℕ) × (k < n) × (test k ≡ true)
below_some zero test h = let e : ◌≡◌ {A = ℕ} 0 1 = cc in absurd (omega arith)
below_some (suc n) test h = here_or_below (test n) refl h (below_some n test)
  where
    here_or_below : (b : Bool) → test n ≡ b → (b || any_below n test) ≡ true
        → (any_below n test ≡ true → (k : ℕ) × (k < n) × (test k ≡ true))
        → (k : ℕ) × (k < suc n) × (test k ≡ true)
    here_or_below true e h below = (n, omega arith, e)
    here_or_below false e h below = let r = below h in let l = r.1 in (r.0, omega arith, r.2)

pub below_found : (n : ℕ) (test : ℕ → Bool) (k : ℕ) → k < n → test k ≡ true → any_below n test ≡ true
below_found zero test k l h = absurd (omega arith)
below_found (suc n) test k l h =
    ⊎_elim (λ e. let z : k ≡ n = omega arith in let here : test n ≡ true = rw z at h in rw here)
    (λ e. rw (below_found n test k (omega arith) h) (or-true (test n)))
    (eq-or-lt_of_le l)

-- one number more, as a loop goes on
pub below_more : (n : ℕ) (test : ℕ → Bool) → any_below (n + 1) test ≡ (test n || any_below n test)
below_more n test = let e : n + 1 ≡ suc n = omega arith in ap (λ m. any_below m test) e

-- the first number apart, as a list goes on
pub below_front : (n : ℕ) (test : ℕ → Bool) → any_below (suc n) test ≡ (test 0 || any_below n (λ k. test (suc k)))
below_front zero test = refl
below_front (suc n) test =
    ap (λ (b : Bool). test (suc n) || b) (below_front n test) ∙ swapped (test (suc n)) (test 0) _
  where
    swapped : (a b c : Bool) → (a || (b || c)) ≡ (b || (a || c))
    swapped true true c = refl
    swapped true false c = refl
    swapped false true c = refl
    swapped false false c = refl

pub below_same : (n : ℕ) (f g : ℕ → Bool) → ((k : ℕ) → k < n → f k ≡ g k) → any_below n f ≡ any_below n g
below_same zero f g h = refl
below_same (suc n) f g h = ap₂ ◌||◌ (h n (omega arith)) (below_same n f g (λ k l. h k (omega arith)))

-- a loop over more numbers that leaves those from n on
pub below_cut : (n m : ℕ) (test : ℕ → Bool) → n ≤ m → any_below m (λ k. ltb k n && test k) ≡ any_below n test
below_cut n zero test l = let e : n ≡ 0 = omega arith in rw e
below_cut n (suc m) test l =
    ⊎_elim (λ e. rw e (below_same (suc m) _ test (λ k h. ap (λ (b : Bool). b && test k) (lt-ltb k (suc m) h))))
    (λ e. rw (le-ltb m n (omega arith)) (below_cut n m test (omega arith)))
    (eq-or-lt_of_le l)

-- the same of the elements of a list by places
pub any_below_lem : {A : Type 0} (test : A → Bool) (n : ℕ) (f : ℕ → A)
    → any test (tabulate n f) ≡ any_below n (λ k. test (f k))
unfolding any tabulate
any_below_lem test zero f = refl
any_below_lem test (suc n) f =
    let e : suc n ≡ n + 1 = omega arith in
    ap (λ (m : ℕ). any test (tabulate m f)) e
    ∙ any_next test f n
    ∙ or_comm (any test (tabulate n f)) (test (f n))
    ∙ ap (λ (b : Bool). test (f n) || b) (any_below_lem test n f)
