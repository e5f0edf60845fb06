-- Membership: the members of a union and a difference, sets that are equal by their members, what each test decides.
-- Assumes nothing.
use Prim.Native.Nat.{ℕ, zero, suc, ◌+◌, ◌*◌, ◌/◌, ◌%◌, ◌-◌, ◌^◌, ◌≤◌, ◌<◌, min, max}
use mathlib.Core.Path.{◌≡◌, refl, sym, ap, ◌∙◌}
use mathlib.Core.Bool.{Bool, true, false, not, ◌&&◌, ◌||◌, not-not, and-true, and-false, and-eq-true_iff}
use native.Mathlib.Decide.{dec_lt}
use native.Mathlib.Nat.{zero-add, add-zero, suc-add, pow-succ'}
use native.Mathlib.Nat.{div-one, div-div-eq-div-mul, div-eq_of_lt, le-div_iff_mul-le}
use native.Mathlib.Omega.{arith}
use lib.Dec.{eqb}
use lib.Arith.{bin_ind}
use lib.Bits.{bit_and, bit_or, and_step, or_step, and_le_l}
use lib.Pow.{pow_mono, pow_pos}
use borrow.Author.Tests.{leb-false, le-leb, lt-leb, eqb-true, eqb-false, eq-eqb, ne_eqb, not-true}
use Rattle.lists.specs.Answer.{Decides}
use Rattle.lists.proofs.Answers.{decides_iff}
use Rattle.facts.specs.FactSet.{has, union, difference, subset, Subset, meets, Disjoint, foreign, Within}
use Rattle.facts.proofs.Digits.{digit, lowest_digit, by_digits}

-- ---- members of a set made of two
pub has_union : (a b n : ℕ) → has (union a b) n ≡ (has a n || has b n)
unfolding union
has_union = by_digits bit_or max ◌||◌ or_step digits
  where
    digits : (x y : Bool) → max (digit x) (digit y) ≡ digit (x || y)
    digits true true = refl
    digits true false = refl
    digits false true = refl
    digits false false = refl

pub has_difference : (a b n : ℕ) → has (difference a b) n ≡ (has a n && not (has b n))
unfolding difference
has_difference = by_digits (λ a b. a - bit_and a b) (λ x y. x - min x y) (λ x y. x && not y) step digits
  where
    step : (a b : ℕ) → a - bit_and a b ≡ (a / 2 - bit_and (a / 2) (b / 2)) * 2 + (a % 2 - min (a % 2) (b % 2))
    step a b = omega (arith, and_step a b, and_le_l (a / 2) (b / 2))

    digits : (x y : Bool) → digit x - min (digit x) (digit y) ≡ digit (x && not y)
    digits true true = refl
    digits true false = refl
    digits false true = refl
    digits false false = refl

pub has_both : (a b n : ℕ) → has (bit_and a b) n ≡ (has a n && has b n)
has_both = by_digits bit_and min ◌&&◌ and_step digits
  where
    digits : (x y : Bool) → min (digit x) (digit y) ≡ digit (x && y)
    digits true true = refl
    digits true false = refl
    digits false true = refl
    digits false false = refl

pub has_zero : (n : ℕ) → has 0 n ≡ false
unfolding has
has_zero zero = refl
has_zero (suc n) = has_zero n

-- ---- sets are equal by their members
pub same_members : (a b : ℕ) → ((n : ℕ) → has a n ≡ has b n) → a ≡ b
unfolding has
same_members a b = go (a + b) a b (omega arith) (omega arith)
  where
    go : (fuel a b : ℕ) → a ≤ fuel → b ≤ fuel → ((n : ℕ) → has a n ≡ has b n) → a ≡ b
    go zero a b l m h = omega arith
    go (suc fuel) a b l m h =
        let halves : a / 2 ≡ b / 2 = go fuel (a / 2) (b / 2) (omega arith) (omega arith) (λ n. h (suc n)) in
        let digits : a % 2 ≡ b % 2 = lowest_digit a ∙ ap digit (h zero) ∙ sym (lowest_digit b) in
        omega arith

pub some_member : (set : ℕ) → (set ≡ 0 → ⊥) → (n : ℕ) × (has set n ≡ true)
unfolding has
some_member =
    bin_ind (λ (set : ℕ). (set ≡ 0 → ⊥) → (n : ℕ) × (has set n ≡ true)) (λ h. absurd (h refl))
    (λ set rest h. go set rest h (has set 0) refl)
  where
    go : (set : ℕ) → ((set / 2 ≡ 0 → ⊥) → (n : ℕ) × (has (set / 2) n ≡ true)) → (set ≡ 0 → ⊥)
        → (x : Bool) → has set 0 ≡ x → (n : ℕ) × (has set n ≡ true)
    go set rest h true e = (0, e)
    go set rest h false e =
        let even : set % 2 ≡ 0 = lowest_digit set ∙ ap digit e in
        let found = rest (λ z. h (omega arith)) in
        (suc found.0, found.1)

-- ---- what the tests decide
same_decides : (a b : ℕ) → Decides (eqb a b) ((n : ℕ) → has a n ≡ has b n)
same_decides a b =
    record {
      sound = λ e n. ap (λ (set : ℕ). has set n) (eqb-true a b e);
      complete = λ h. eq-eqb a b (same_members a b h);
    }

both_agree : (x y z : Bool) → (x ≡ true → y ≡ z) → (x && y) ≡ (x && z)
both_agree true y z h = h refl
both_agree false y z h = refl

pub subset_decides : (a b : ℕ) → Decides (subset a b) (Subset a b)
unfolding subset
subset_decides a b =
    decides_iff (same_decides (bit_and a b) a)
    (λ same n h. sym (rw h at (has_both a b n)) ∙ same n ∙ h)
    (λ h n. has_both a b n ∙ both_agree (has a n) (has b n) true (h n) ∙ and-true (has a n))

pub disjoint_decides : (a b : ℕ) → Decides (not (meets a b)) (Disjoint a b)
unfolding meets
disjoint_decides a b =
    rw (not-not (eqb (bit_and a b) 0))
    (decides_iff (same_decides (bit_and a b) 0)
    (λ same n h. sym (rw h at (has_both a b n)) ∙ same n ∙ has_zero n)
    (λ h n. has_both a b n ∙ both_agree (has a n) (has b n) false (h n) ∙ and-false (has a n) ∙ sym (has_zero n)))

pub meets_some : (a b : ℕ) → meets a b ≡ true → (n : ℕ) × (has a n ≡ true) × (has b n ≡ true)
unfolding meets
meets_some a b h =
    let found = some_member (bit_and a b) (eqb-false (bit_and a b) 0 (not-true _ h)) in
    let n = found.0 in
    let both = (and-eq-true_iff (has a n) (has b n)).0 (sym (has_both a b n) ∙ found.1) in
    (n, both.0, both.1)

-- ---- membership by a shift
pub has_shifted : (set k n : ℕ) → has (set / 2 ^ k) n ≡ has set (k + n)
unfolding has
has_shifted set zero n = rw (div-one set, zero-add n)
has_shifted set (suc k) n =
    rw (pow-succ' 2 k, ← div-div-eq-div-mul set 2 (2 ^ k), suc-add k n) (has_shifted (set / 2) k n)

pub has_by_shift : (set n : ℕ) → has set n ≡ eqb (set / 2 ^ n % 2) 1
unfolding has
has_by_shift set n = sym (rw (add-zero n) at (has_shifted set n zero))

-- ---- facts at or above the number of facts
pub foreign_shift : (facts set : ℕ) → not (eqb (set / 2 ^ facts) 0) ≡ foreign facts set
unfolding foreign
foreign_shift facts set =
    elim (dec_lt set (2 ^ facts)) [
      | yes h ↦ ap not (eq-eqb (set / 2 ^ facts) 0 (div-eq_of_lt h)) ∙ sym (lt-leb (2 ^ facts) set h)
      | no h ↦
          let some : 1 ≤ set / 2 ^ facts = (le-div_iff_mul-le (pow_pos facts)).1 (omega arith) in
          ap not (ne_eqb (set / 2 ^ facts) 0 (λ e. omega arith)) ∙ sym (le-leb (2 ^ facts) set (omega arith))
    ]

pub foreign_decides : (facts set : ℕ) → Decides (not (foreign facts set)) (Within facts set)
foreign_decides facts set =
    rw (← foreign_shift facts set, not-not (eqb (set / 2 ^ facts) 0))
    (decides_iff (same_decides (set / 2 ^ facts) 0)
    (λ none n l.
    let place : facts + (n - facts) ≡ n = omega arith in
    sym (rw place at (has_shifted set facts (n - facts))) ∙ none (n - facts) ∙ has_zero (n - facts))
    (λ within n. has_shifted set facts n ∙ within (facts + n) (omega arith) ∙ sym (has_zero n)))

pub within_unless_foreign : (facts set : ℕ) → foreign facts set ≡ false → Within facts set
within_unless_foreign facts set h = (foreign_decides facts set).sound (ap not h)

-- a word has no fact from 64 on
pub foreign_none : (facts set : ℕ) → 64 ≤ facts → set < 2 ^ 64 → foreign facts set ≡ false
unfolding foreign
foreign_none facts set l h = let more = pow_mono l in lt-leb (2 ^ facts) set (omega arith)

pub word_within : (set : ℕ) → set < 2 ^ 64 → Within 64 set
word_within set h = within_unless_foreign 64 set (foreign_none 64 set (omega arith) h)

pub within_word : (facts set : ℕ) → foreign facts set ≡ false → facts ≤ 64 → set < 2 ^ 64
unfolding foreign
within_word facts set h l = let more = pow_mono l in let less = leb-false (2 ^ facts) set h in omega arith
