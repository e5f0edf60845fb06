-- The facts that may still be taken for a clique: fewer with each fact that is taken.
-- Assumes nothing.
use Prim.Native.Nat.{ℕ, ◌<◌}
use mathlib.Core.Path.{◌≡◌, sym, ap, ◌∙◌}
use mathlib.Core.Bool.{true, false, ◌&&◌}
use mathlib.Core.Logic.{⊎_elim}
use mathlib.Core.List.{List}
use native.Mathlib.Nat.{eq-or-lt_of_le}
use lib.Bits.{bit_and, and_le_r}
use borrow.Author.Tests.{eqb-true}
use Rattle.lists.proofs.Bools.{and_left, and_right}
use Rattle.facts.specs.FactSet.{has, Members, difference, subset, Subset, single}
use Rattle.facts.proofs.Membership.{subset_decides}
use Rattle.facts.proofs.SetLaws.{in_difference_parts}
use Rattle.timeline.proofs.Tests.{not_both, false_unless}
use Rattle.times.proofs.Singles.{in_single}
use Rattle.cliques.specs.Cliques.{apart_at, Remaining}

-- a set within another that lacks one of its facts is the lesser number
pub fewer_without : (a b q : ℕ) → Subset a b → has a q ≡ false → has b q ≡ true → a < b
unfolding subset
fewer_without a b q inside out member =
    let common : bit_and a b ≡ a = eqb-true (bit_and a b) a ((subset_decides a b).complete inside) in
    let most = and_le_r a b in
    ⊎_elim (λ e. not_both (ap (λ (s : ℕ). has s q) e ∙ member) out) (λ less. less)
    (eq-or-lt_of_le (rw common at most))

-- the allowed facts without q, as far as they are apart from it
pub remaining_of : (sets : List ℕ) (allowed q one others rest : ℕ) → one ≡ single q → others ≡ difference allowed one
    → Members rest (λ n. has others n && has (apart_at sets q) n) → Remaining sets allowed q rest
remaining_of sets allowed q one others rest same is members =
    record {
      inside = λ n h. (parts n h).0;
      apart = λ n h. and_right (has others n) _ (sym (members n) ∙ h);
      fewer = fewer_without rest allowed q (λ n h. (parts n h).0)
          (false_unless (has rest q) (λ h. not_both (in_single q) (parts q h).1));
    }
  where
    parts : (n : ℕ) → has rest n ≡ true → (has allowed n ≡ true) × (has (single q) n ≡ false)
    parts n h =
        in_difference_parts allowed (single q) n
        (ap (λ (s : ℕ). has s n) (sym (is ∙ ap (difference allowed) same))
        ∙ and_left (has others n) (has (apart_at sets q) n) (sym (members n) ∙ h))
