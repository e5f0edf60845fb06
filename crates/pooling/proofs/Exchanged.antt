-- The facts and actions of two jobs pooled in the one order and in the other: which is which.
-- Assumes nothing.
use Prim.Native.Nat.{ℕ, ◌+◌, ◌-◌, ◌<◌, ◌≤◌}
use mathlib.Core.Path.{◌≡◌, sym, ap, ◌∙◌}
use mathlib.Core.Bool.{Bool, cond}
use mathlib.Core.Logic.{⊎_elim}
use native.Mathlib.Omega.{arith}
use lib.Dec.{ltb}
use borrow.Author.Tests.{lt-ltb, le-ltb}
use Rattle.facts.specs.FactSet.{has, Within}
use Rattle.timeline.proofs.Tests.{le_or_lt}
use Rattle.pooling.specs.Pooled.{behind}
use Rattle.pooling.proofs.Behind.{behind_zero, behind_low, behind_high}

-- ---- the fact of the one pooled job that fact n of the other is: facts first of the first job, then of the second
module _ (a b : ℕ) where
  abbrev pub exchanged : ℕ → ℕ
  exchanged n = cond (ltb n b) (a + n) (cond (ltb n (b + a)) (n - b) n)

  low : (n : ℕ) → n < b → exchanged n ≡ a + n
  low n l = ap (λ (c : Bool). cond c (a + n) (cond (ltb n (b + a)) (n - b) n)) (lt-ltb n b l)

  high : (n : ℕ) → b ≤ n → n < b + a → exchanged n ≡ n - b
  high n l m =
      ap (λ (c : Bool). cond c (a + n) (cond (ltb n (b + a)) (n - b) n)) (le-ltb n b l)
      ∙ ap (λ (c : Bool). cond c (n - b) n) (lt-ltb n (b + a) m)

  beyond : (n : ℕ) → b + a ≤ n → exchanged n ≡ n
  beyond n l =
      ap (λ (c : Bool). cond c (a + n) (cond (ltb n (b + a)) (n - b) n)) (le-ltb n b (omega arith))
      ∙ ap (λ (c : Bool). cond c (n - b) n) (le-ltb n (b + a) l)

  -- a set of the first job, which stands behind in the other
  pub first_exchanged : (set : ℕ) → Within a set → (n : ℕ) → has (behind b set) n ≡ has (behind 0 set) (exchanged n)
  first_exchanged set within n =
      ⊎_elim
      (λ l.
      let e : n ≡ b + (n - b) = omega arith in
      ap (has (behind b set)) e ∙ behind_high b set (n - b)
      ∙ ⊎_elim
      (λ m. within (n - b) (omega arith) ∙ sym (within n (omega arith)) ∙ ap (has set) (sym (beyond n m)))
      (λ m. ap (has set) (sym (high n l m)))
      (le_or_lt (b + a) n))
      (λ l. behind_low b set n l ∙ sym (within (a + n) (omega arith)) ∙ ap (has set) (sym (low n l)))
      (le_or_lt b n)
      ∙ ap (λ (s : ℕ). has s (exchanged n)) (sym (behind_zero set))

  -- a set of the second, which stands first in the other
  pub second_exchanged : (set : ℕ) → Within b set → (n : ℕ) → has (behind 0 set) n ≡ has (behind a set) (exchanged n)
  second_exchanged set within n =
      ap (λ (s : ℕ). has s n) (behind_zero set)
      ∙ ⊎_elim
      (λ l.
      within n l
      ∙ ⊎_elim
      (λ m.
      let e : n ≡ a + (n - a) = omega arith in
      sym (within (n - a) (omega arith)) ∙ sym (behind_high a set (n - a)) ∙ ap (has (behind a set)) (sym e)
      ∙ ap (has (behind a set)) (sym (beyond n m)))
      (λ m. sym (behind_low a set (n - b) (omega arith)) ∙ ap (has (behind a set)) (sym (high n l m)))
      (le_or_lt (b + a) n))
      (λ l. sym (behind_high a set n) ∙ ap (has (behind a set)) (sym (low n l)))
      (le_or_lt b n)

-- ---- the number of an action in the other order
abbrev pub renumber : ℕ → ℕ → ℕ → ℕ
renumber first second i = cond (ltb i first) (second + i) (i - first)

pub renumber_first : (first second i : ℕ) → i < first → renumber first second i ≡ second + i
renumber_first first second i l = ap (λ (c : Bool). cond c (second + i) (i - first)) (lt-ltb i first l)

pub renumber_second : (first second i : ℕ) → first ≤ i → renumber first second i ≡ i - first
renumber_second first second i l = ap (λ (c : Bool). cond c (second + i) (i - first)) (le-ltb i first l)

-- numbers of different actions stay different, and in range
pub renumber_apart : (first second i j : ℕ) → i < first + second → j < first + second
    → renumber first second i ≡ renumber first second j → i ≡ j
renumber_apart first second i j k l e =
    ⊎_elim
    (λ p. let x = renumber_second first second i p in
    ⊎_elim (λ q. let y = renumber_second first second j q in omega arith)
    (λ q. let y = renumber_first first second j q in omega arith) (le_or_lt first j))
    (λ p. let x = renumber_first first second i p in
    ⊎_elim (λ q. let y = renumber_second first second j q in omega arith)
    (λ q. let y = renumber_first first second j q in omega arith) (le_or_lt first j))
    (le_or_lt first i)

pub renumber_below : (first second i : ℕ) → i < first + second → renumber first second i < second + first
renumber_below first second i l =
    ⊎_elim (λ p. let x = renumber_second first second i p in omega arith)
    (λ p. let x = renumber_first first second i p in omega arith) (le_or_lt first i)
