-- The set of one fact: its members, those of a set joined with it, and a set without it.
-- Assumes nothing.
use Prim.Native.Nat.{ℕ, zero, suc, ◌/◌, ◌%◌, ◌^◌, ◌<◌}
use mathlib.Core.Path.{◌≡◌, refl, sym, ap, ◌∙◌}
use mathlib.Core.Bool.{true}
use mathlib.Core.Logic.{◌⊎◌, inl, inr, ⊎_elim}
use native.Mathlib.Nat.{pow-succ'}
use native.Mathlib.Omega.{arith}
use lib.Bits.{bit_and, and_le_l}
use lib.Dec.{eqb}
use borrow.Author.Tests.{eqb-true, eqb-false, eq-eqb, ne_eqb, not-true}
use Rattle.facts.specs.FactSet.{has, union, difference, meets, single}
use Rattle.facts.proofs.Membership.{has_zero}
use Rattle.facts.proofs.SetLaws.{in_union_right, in_union_cases, in_both_meets}
use Rattle.timeline.proofs.Tests.{same_test}

pub has_single : (q n : ℕ) → has (single q) n ≡ eqb n q
unfolding has
has_single zero zero = refl
has_single zero (suc n) = has_zero n ∙ sym (ne_eqb (suc n) 0 (λ e. omega arith))
has_single (suc q) zero =
    let e = pow-succ' 2 q in
    ne_eqb (2 ^ suc q % 2) 1 (λ o. omega arith) ∙ sym (ne_eqb 0 (suc q) (λ o. omega arith))
has_single (suc q) (suc n) =
    let e = pow-succ' 2 q in
    let half : 2 ^ suc q / 2 ≡ 2 ^ q = omega arith in
    rw half (has_single q n ∙ eqb_suc n q)
  where
    eqb_suc : (n q : ℕ) → eqb n q ≡ eqb (suc n) (suc q)
    eqb_suc n q =
        same_test (eqb n q) (eqb (suc n) (suc q)) (λ e. eq-eqb (suc n) (suc q) (ap suc (eqb-true n q e)))
        (λ e. let same = eqb-true (suc n) (suc q) e in eq-eqb n q (omega arith))

pub in_single : (q : ℕ) → has (single q) q ≡ true
in_single q = has_single q q ∙ eq-eqb q q refl

pub only_in_single : (q n : ℕ) → has (single q) n ≡ true → n ≡ q
only_in_single q n h = eqb-true n q (sym (has_single q n) ∙ h)

pub in_with : (set q : ℕ) → has (union set (single q)) q ≡ true
in_with set q = in_union_right set (single q) q (in_single q)

pub in_with_cases : (set q n : ℕ) → has (union set (single q)) n ≡ true → (has set n ≡ true) ⊎ (n ≡ q)
in_with_cases set q n h =
    ⊎_elim (λ e. inl e) (λ e. inr (only_in_single q n e)) (in_union_cases set (single q) n h)

-- the set without a member is a smaller number
pub less_without : (set i : ℕ) → has set i ≡ true → difference set (single i) < set
unfolding difference meets
less_without set i member =
    let some = eqb-false (bit_and set (single i)) 0
    (not-true (eqb (bit_and set (single i)) 0) (in_both_meets set (single i) i member (in_single i))) in
    let most = and_le_l set (single i) in
    let positive : bit_and set (single i) ≡ 0 → ⊥ = some in
    omega arith
