-- The place of each two facts in the list of entries, and what writing one entry does to the table.
-- Assumes nothing.
use Prim.Native.Nat.{ℕ, zero, suc, ◌+◌, ◌*◌, ◌<◌, ◌≤◌}
use mathlib.Core.Path.{◌≡◌, ap}
use mathlib.Core.Logic.{◌⊎◌, inl, inr, ⊎_elim}
use mathlib.Core.List.{List}
use native.Mathlib.Nat.{le_refl, eq-or-lt_of_le}
use native.Mathlib.Omega.{arith}
use lib.Dec.{eqb}
use lib.ListN.{length, set}
use lib.Seq.{get_or-set_same, get_or-set_other}
use borrow.Author.Tests.{eqb-true, eqb-false}
use Rattle.timeline.proofs.Tests.{decided, trichotomy}
use Rattle.pairs.specs.Pairs.{entry_of}
use Rattle.times.specs.Numbers.{none, time_in, table_in}

-- ---- the entries of row q come after those of the rows before
pub row_start : (q : ℕ) → entry_of 0 (suc q) ≡ entry_of 0 q + suc q
row_start q = let e : suc q * (suc q + 1) ≡ q * (q + 1) + 2 * suc q = omega arith in omega arith

pub row_start_mono : (q s : ℕ) → q ≤ s → entry_of 0 q ≤ entry_of 0 s
row_start_mono q zero l = let e : q ≡ 0 = omega arith in rw e (le_refl 0)
row_start_mono q (suc s) l =
    ⊎_elim (λ e. rw e (le_refl (entry_of 0 (suc s))))
    (λ k. let h = row_start_mono q s (omega arith) in let n = row_start s in omega arith)
    (eq-or-lt_of_le l)

pub entry_of_later_row : (p q r s : ℕ) → p ≤ q → q < s → entry_of p q < entry_of r s
entry_of_later_row p q r s a b =
    let h = row_start_mono (suc q) s b in let n = row_start q in omega arith

-- different pairs have different entries
pub entry_of_one_pair : (p q r s : ℕ) → p ≤ q → r ≤ s → entry_of p q ≡ entry_of r s → (p ≡ r) × (q ≡ s)
entry_of_one_pair p q r s a b h =
    ⊎_elim (λ e. let z : entry_of 0 q ≡ entry_of 0 s = ap (entry_of 0) e in (omega arith, e))
    (λ d.
    ⊎_elim (λ l. let k = entry_of_later_row p q r s a l in absurd (omega arith))
    (λ l. let k = entry_of_later_row r s p q b l in absurd (omega arith))
    d)
    (trichotomy q s)

-- the entries of n facts come first
pub entry_before : (p q n : ℕ) → p ≤ q → q < n → entry_of p q < entry_of 0 n
entry_before p q n a b = entry_of_later_row p q 0 n a b

pub entry_before_2080 : (p q : ℕ) → p ≤ q → q < 64 → entry_of p q < 2080
entry_before_2080 p q a b = entry_before p q 64 a b

-- ---- writing one entry
pub table_at_entry_set : (xs : List ℕ) (p q v : ℕ) → entry_of p q < length xs
    → table_in (set xs (entry_of p q) v) p q ≡ time_in v
table_at_entry_set xs p q v l = ap time_in (get_or-set_same xs (entry_of p q) v none l)

pub table_at_other_entry : (xs : List ℕ) (p q v r s : ℕ) → p ≤ q → r ≤ s → ((r ≡ p) × (s ≡ q) → ⊥)
    → table_in (set xs (entry_of p q) v) r s ≡ table_in xs r s
table_at_other_entry xs p q v r s a b other =
    ap time_in
    (get_or-set_other xs (entry_of p q) (entry_of r s) v none (λ e. other (entry_of_one_pair r s p q b a e)))

pub same_pair_or_other : (r s p q : ℕ) → ((r ≡ p) × (s ≡ q)) ⊎ ((r ≡ p) × (s ≡ q) → ⊥)
same_pair_or_other r s p q =
    ⊎_elim
    (λ e.
    ⊎_elim (λ f. inl (eqb-true r p e, eqb-true s q f)) (λ f. inr (λ z. eqb-false s q f z.1)) (decided (eqb s q)))
    (λ e. inr (λ z. eqb-false r p e z.0))
    (decided (eqb r p))
