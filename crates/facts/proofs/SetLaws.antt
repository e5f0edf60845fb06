-- Laws of sets that follow from membership: union, difference, subset and meets among themselves.
-- Assumes nothing.
use Prim.Native.Nat.{ℕ}
use mathlib.Core.Path.{◌≡◌, refl, sym, ◌∙◌}
use mathlib.Core.Bool.{Bool, true, false, not, ◌||◌, and-eq-true_iff, or-true, or_assoc, true≢false}
use mathlib.Core.Logic.{◌⊎◌, inl, inr}
use lib.Bits.{or_comm, or_zero_l, or_zero_r, or_lt}
use borrow.Author.Tests.{leb-false, lt-leb, not-true, not-false}
use Rattle.facts.specs.FactSet.{has, union, difference, subset, meets, foreign}
use Rattle.facts.proofs.Membership.{has_union, has_difference, has_zero, same_members, subset_decides}
use Rattle.facts.proofs.Membership.{disjoint_decides, meets_some}

false_if_not_true : (x : Bool) → (x ≡ true → ⊥) → x ≡ false
false_if_not_true true h = absurd (h refl)
false_if_not_true false h = refl

-- ---- one fact
module _ (a b n : ℕ) where
  pub in_union_left : has a n ≡ true → has (union a b) n ≡ true
  in_union_left h = has_union a b n ∙ rw h

  pub in_union_right : has b n ≡ true → has (union a b) n ≡ true
  in_union_right h = has_union a b n ∙ rw (h, or-true (has a n))

  pub in_union_cases : has (union a b) n ≡ true → (has a n ≡ true) ⊎ (has b n ≡ true)
  in_union_cases h = cases (has a n) (has b n) (sym (has_union a b n) ∙ h)
    where
      cases : (x y : Bool) → (x || y) ≡ true → (x ≡ true) ⊎ (y ≡ true)
      cases true y h = inl refl
      cases false y h = inr h

  pub in_difference : has a n ≡ true → has b n ≡ false → has (difference a b) n ≡ true
  in_difference h k = has_difference a b n ∙ rw (h, k)

  pub in_difference_parts : has (difference a b) n ≡ true → (has a n ≡ true) × (has b n ≡ false)
  in_difference_parts h =
      let parts = (and-eq-true_iff (has a n) (not (has b n))).0 (sym (has_difference a b n) ∙ h) in
      (parts.0, not-true (has b n) parts.1)

  pub in_both_meets : has a n ≡ true → has b n ≡ true → meets a b ≡ true
  in_both_meets h k =
      not-false (meets a b)
      (false_if_not_true (not (meets a b)) (λ e. true≢false (sym k ∙ (disjoint_decides a b).sound e n h)))

  pub not_in_both : meets a b ≡ false → has a n ≡ true → has b n ≡ true → ⊥
  not_in_both e h k = true≢false (sym (in_both_meets h k) ∙ e)

-- ---- subset
pub zero_subset : (a : ℕ) → subset 0 a ≡ true
zero_subset a = (subset_decides 0 a).complete (λ n h. absurd (true≢false (sym h ∙ has_zero n)))

-- ---- union
pub union_comm : (a b : ℕ) → union a b ≡ union b a
unfolding union
union_comm = or_comm

pub union_assoc : (a b c : ℕ) → union (union a b) c ≡ union a (union b c)
union_assoc a b c = same_members _ _ (λ n. simp (has_union, or_assoc))

pub union_zero_left : (a : ℕ) → union 0 a ≡ a
unfolding union
union_zero_left = or_zero_l

pub union_zero_right : (a : ℕ) → union a 0 ≡ a
unfolding union
union_zero_right = or_zero_r

-- ---- meets
-- two sets meet if what two meeting sets have in common is common to them
pub meets_common : (a b c d : ℕ) → meets a b ≡ true
    → ((n : ℕ) → has a n ≡ true → has b n ≡ true → (has c n ≡ true) × (has d n ≡ true)) → meets c d ≡ true
meets_common a b c d m h =
    let found = meets_some a b m in
    let common = h found.0 found.1 found.2 in
    in_both_meets c d found.0 common.0 common.1

pub no_common_member : (a b : ℕ) → ((n : ℕ) → has a n ≡ true → has b n ≡ true → ⊥) → meets a b ≡ false
no_common_member a b h =
    not-true (meets a b) ((disjoint_decides a b).complete (λ n k. false_if_not_true (has b n) (h n k)))

-- ---- no foreign facts
pub foreign_union : (facts a b : ℕ) → foreign facts a ≡ false → foreign facts b ≡ false
    → foreign facts (union a b) ≡ false
unfolding foreign union
foreign_union facts a b h k =
    lt-leb _ _ (or_lt facts a b (leb-false _ _ h) (leb-false _ _ k))
