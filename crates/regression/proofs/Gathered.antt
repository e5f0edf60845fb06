-- Facts in a union over the steps of a list, where a step may give its set only under a test.
-- Assumes nothing.
use Prim.Native.Nat.{ℕ}
use mathlib.Core.Path.{◌≡◌, refl, sym, ap, ◌∙◌}
use mathlib.Core.Bool.{Bool, true, false, cond}
use mathlib.Core.List.{List}
use Rattle.facts.specs.FactSet.{has, union}
use Rattle.facts.proofs.Membership.{has_zero}
use Rattle.timeline.specs.Step.{Step, union_of}
use Rattle.timeline.specs.Places.{Place, Permutation, empty, next_step}
use Rattle.timeline.proofs.Tests.{not_both}
use Rattle.timeline.proofs.Places.{any_at, find_any, union_of_place}
use Rattle.timeline.proofs.HeldFacts.{has_union_of}

-- ---- a set that is given under a test
pub in_cond : (test : Bool) (set n : ℕ) → test ≡ true → has set n ≡ true → has (cond test set 0) n ≡ true
in_cond test set n e h = rw e h

pub in_cond_parts : (test : Bool) (set n : ℕ) → has (cond test set 0) n ≡ true → (test ≡ true) × (has set n ≡ true)
in_cond_parts true set n h = (refl, h)
in_cond_parts false set n h = not_both h (has_zero n)

-- ---- a fact of a union
module _ (f : Step → ℕ) (n : ℕ) where
  pub in_union_of : {x : Step} {Q P : List Step} → Place x Q P → has (f x) n ≡ true → has (union_of f P) n ≡ true
  in_union_of {P = P} i h = has_union_of f n P ∙ any_at (λ x. has (f x) n) i h

  pub in_union_of_from : (P : List Step) → has (union_of f P) n ≡ true
      → (x : Step) × (Q : List Step) × Place x Q P × (has (f x) n ≡ true)
  in_union_of_from P h = find_any (λ x. has (f x) n) P (sym (has_union_of f n P) ∙ h)

pub permutation_union_of : (f : Step → ℕ) {R P : List Step} → Permutation R P → union_of f R ≡ union_of f P
permutation_union_of f empty = refl
permutation_union_of f (next_step {x} i k) =
    ap (union (f x)) (permutation_union_of f k) ∙ sym (union_of_place f i)
