-- The lowest member of a set: as many zeros stand below its digit.
-- Assumes nothing.
use Prim.Native.Nat.{ℕ, zero, suc, ◌+◌, ◌*◌, ◌-◌, ◌/◌, ◌%◌, ◌^◌, ◌≤◌, ◌<◌}
use mathlib.Core.Path.{◌≡◌, refl, sym, ap, ◌∙◌}
use mathlib.Core.Bool.{true, false, true≢false}
use native.Mathlib.Decide.{dec_lt}
use native.Mathlib.Nat.{div-mul-le_self, mul-div_cancel, pow-succ'}
use native.Mathlib.Omega.{arith}
use lib.Count.{count_trailing_zeros, under, trailing_of_zero}
use lib.Bits.{shifted_half, shifted_even}
use lib.Pow.{pow_pos}
use borrow.Author.Tests.{eq-eqb, ne_eqb}
use Rattle.facts.specs.FactSet.{has, NextFact}
use Rattle.facts.proofs.Membership.{has_shifted, has_zero, word_within}

-- r is the lowest member of the set
pub record Lowest (set r : ℕ) : Type 0 where
  pub below : (n : ℕ) → n < r → has set n ≡ false
  pub member : has set r ≡ true

below_next : (set r n : ℕ) → set % 2 ≡ 0 → n < suc r → ((m : ℕ) → m < r → has (set / 2) m ≡ false) → has set n ≡ false
unfolding has
below_next set r zero e k h = ne_eqb (set % 2) 1 (λ o. omega arith)
below_next set r (suc n) e k h = h n (omega arith)

lowest_of_half : (set digit zeros : ℕ) → set % 2 ≡ digit → (digit ≡ 0 → Lowest (set / 2) zeros)
    → Lowest set (under digit zeros)
unfolding has
lowest_of_half set zero zeros e half =
    record { below = λ n k. below_next set zeros n e k (half refl).below; member = (half refl).member }
lowest_of_half set (suc digit) zeros e half =
    record { below = λ n k. absurd (omega arith); member = eq-eqb (set % 2) 1 (omega arith) }

pub lowest_by_zeros : (width set : ℕ) → 0 < set → set < 2 ^ width → Lowest set (count_trailing_zeros width set)
unfolding count_trailing_zeros
lowest_by_zeros zero set p l = absurd (omega arith)
lowest_by_zeros (suc width) set p l =
    let w = pow-succ' 2 width in
    lowest_of_half set (set % 2) (count_trailing_zeros width (set / 2)) refl
    (λ e. lowest_by_zeros width (set / 2) (omega arith) (omega arith))

-- a multiple of 2 ^ k has no member below k
even_below : (m k n : ℕ) → n < k → has (m * 2 ^ k) n ≡ false
unfolding has
even_below m zero n l = absurd (omega arith)
even_below m (suc k) zero l = ne_eqb (m * 2 ^ suc k % 2) 1 (λ o. let e = shifted_even m k in omega arith)
even_below m (suc k) (suc n) l = rw (shifted_half m k) (even_below m k n (omega arith))

-- ---- the next member at or above a number
module _ (set from : ℕ) (word : set < 2 ^ 64) where
  pub next_when_none : 64 ≤ from → NextFact set from 64
  next_when_none l =
      record {
        within = omega arith;
        onward = λ k. k;
        skipped = λ n a b. absurd (omega arith);
        found = λ k. absurd (omega arith);
      }

  -- the facts of the set at or above the number
  abbrev above : ℕ
  above = set / 2 ^ from * 2 ^ from

  none_above_below : (n : ℕ) → n < from → has above n ≡ false
  none_above_below n l = even_below (set / 2 ^ from) from n l

  all_above : (n : ℕ) → from ≤ n → has above n ≡ has set n
  all_above n l =
      let e : from + (n - from) ≡ n = omega arith in
      let half = mul-div_cancel (set / 2 ^ from) (pow_pos from) in
      sym (ap (has above) e) ∙ sym (has_shifted above from (n - from)) ∙ ap (λ (x : ℕ). has x (n - from)) half
      ∙ has_shifted set from (n - from)
      ∙ ap (has set) e

  next_when_none_above : from < 64 → above ≡ 0 → NextFact set from 64
  next_when_none_above l e =
      record {
        within = omega arith;
        onward = λ k. k;
        skipped = λ n a b. sym (all_above n a) ∙ rw e (has_zero n);
        found = λ k. absurd (omega arith);
      }

  next_by_lowest : from < 64 → (r : ℕ) → Lowest above r → NextFact set from r
  next_by_lowest l r low =
      record {
        within = within;
        onward = λ k. onward;
        skipped = λ n a b. sym (all_above n a) ∙ low.below n b;
        found = λ k. member;
      }
    where
      onward : from ≤ r
      onward =
          elim (dec_lt r from) [
            | yes h ↦ absurd (true≢false (sym low.member ∙ none_above_below r h))
            | no h ↦ omega arith
          ]

      member : has set r ≡ true
      member = sym (all_above r onward) ∙ low.member

      within : r ≤ 64
      within =
          elim (dec_lt r 64) [
            | yes h ↦ omega arith
            | no h ↦ absurd (true≢false (sym member ∙ word_within set word r (omega arith)))
          ]

  -- as many zeros as stand below the lowest fact above, 64 where there is none
  pub next_by_zeros : from < 64 → NextFact set from (count_trailing_zeros 64 above)
  next_by_zeros l =
      elim (dec_lt 0 above) [
        | yes some ↦
            let most = div-mul-le_self set (2 ^ from) in
            next_by_lowest l (count_trailing_zeros 64 above) (lowest_by_zeros 64 above some (omega arith))
        | no none ↦
            let e : above ≡ 0 = omega arith in
            rw (e, trailing_of_zero 64) (next_when_none_above l e)
      ]
