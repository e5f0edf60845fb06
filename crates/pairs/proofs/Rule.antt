-- The rule of the row starts, by one test that is computed over all of them.
-- Assumes nothing.
use Prim.Native.Nat.{ℕ, zero, suc, ◌+◌, ◌-◌, ◌*◌, ◌<◌, ◌≤◌}
use mathlib.Core.Path.{◌≡◌}
use mathlib.Core.Bool.{Bool, true, ◌&&◌}
use mathlib.Core.List.{List, [], ◌∷◌}
use native.Mathlib.Nat.{mul-le-mul, eq-or-lt_of_le}
use native.Mathlib.Omega.{arith}
use lib.Dec.{eqb}
use lib.ListN.{length, get_or}
use borrow.Author.Tests.{eqb-true}
use Rattle.std.specs.List.Sorted.{IsPartitionedBy, IsPartitionPoint}
use Rattle.std.proofs.Common.{false, leb, leb-true, leb-false, lt_of_not-le, sym, ⊎_elim}
use Rattle.std.proofs.lemmas.List.Sorted.{IsPartitionedBy-leb, IsNonDecreasingBy-from_default}
use Rattle.lists.proofs.Bools.{absurd, and_left, and_right}
use Rattle.pairs.specs.Pairs.{entry_of, IsRowOf, PairAt}

-- the numbers are the starts of the rows from row q on
abbrev pub starts_from : ℕ → List ℕ → Bool
starts_from q [] = true
starts_from q (x ∷ xs) = eqb x (entry_of 0 q) && starts_from (suc q) xs

start_from : (q : ℕ) (xs : List ℕ) → starts_from q xs ≡ true → (i : ℕ) → i < length xs → get_or xs i 0 ≡ entry_of 0 (q + i)
start_from q [] h i l = absurd (omega arith)
start_from q (x ∷ xs) h zero l =
    let e : q + 0 ≡ q = omega arith in
    rw e (eqb-true x (entry_of 0 q) (and_left (eqb x (entry_of 0 q)) (starts_from (suc q) xs) h))
start_from q (x ∷ xs) h (suc i) l =
    let e : q + suc i ≡ suc q + i = omega arith in
    rw e (start_from (suc q) xs (and_right (eqb x (entry_of 0 q)) (starts_from (suc q) xs) h) i (omega arith))

-- the rule: where each row starts
pub record RowStarts (xs : List ℕ) : Type 0 where
  pub start : (q : ℕ) → q < 64 → get_or xs q 0 ≡ entry_of 0 q

pub rule_when_tested : (xs : List ℕ) → length xs ≡ 64 → starts_from 0 xs ≡ true → RowStarts xs
rule_when_tested xs whole test =
    record {
      start = λ q l. let e : 0 + q ≡ q = omega arith in rw e at (start_from 0 xs test q (omega arith));
    }

-- an entry of row q belongs to fact q
pub pair_in_row : (entry q : ℕ) → IsRowOf entry q → PairAt entry (entry - entry_of 0 q) q
pair_in_row entry q row =
    let e : (q + 1) * (q + 1 + 1) ≡ q * (q + 1) + 2 * (q + 1) = omega arith in
    record { ordered = omega arith; within = row.within; numbered = omega arith }

-- rows before row n start before it
pub row_bound : (q n : ℕ) → q ≤ n → q * (q + 1) ≤ n * (n + 1)
row_bound q n h = mul-le-mul h (omega arith)

-- the starts rise, so the rows that start at an entry or before it are the first ones
pub rows_rise : (xs : List ℕ) (entry : ℕ) → RowStarts xs → length xs ≡ 64 → IsPartitionedBy (λ y. leb y entry) xs
rows_rise xs entry rule whole =
    IsPartitionedBy-leb (λ y. y) xs entry
    (IsNonDecreasingBy-from_default (λ y. y) xs 0 (λ i j l m.
    rw (rule.start i (omega arith), rule.start j (omega arith)) (let b = row_bound i j l in omega arith)))

-- the last of them is the row of the entry
pub last_row : (xs : List ℕ) (entry n : ℕ) → RowStarts xs → length xs ≡ 64 → entry < 2080 → n ≤ length xs
    → IsPartitionPoint (λ y. leb y entry ≡ true) (λ y. leb y entry ≡ false) xs n → (0 < n) × IsRowOf entry (n - 1)
last_row xs entry n rule whole small most point =
    let some : 0 < n = lt_of_not-le (λ none.
    let first = leb-false _ _ (point.1 0 0 none (omega arith)) in
    let start = rule.start 0 (omega arith) in
    omega arith) in
    let e : n - 1 + 1 ≡ n = omega arith in (
      some,
      record {
        within = omega arith;
        from = rw (sym (rule.start (n - 1) (omega arith))) (leb-true _ _ (point.0 (n - 1) 0 (omega arith) (omega arith)));
        before = rw e (⊎_elim
            (λ all. let h : n ≡ 64 = omega arith in rw h small)
            (λ less. let l : n < 64 = omega arith in rw (sym (rule.start n l)) (leb-false _ _ (point.1 n 0 (omega arith) (omega arith))))
            (eq-or-lt_of_le most));
      },
    )
