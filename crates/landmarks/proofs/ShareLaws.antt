-- Shares in the table: rows that are put, kept and tested.
-- Assumes nothing.
use Prim.Native.Nat.{ℕ, zero, suc, ◌+◌, ◌*◌, ◌-◌, ◌≤◌, ◌<◌}
use mathlib.Core.Path.{◌≡◌, refl, ap, ap₂}
use mathlib.Core.Bool.{Bool, true, false, cond}
use mathlib.Core.Logic.{⊎_elim}
use mathlib.Core.List.{List}
use native.Mathlib.Nat.{eq-or-lt_of_le}
use native.Mathlib.Omega.{arith}
use lib.ListN.{length, get_or}
use borrow.Author.Tests.{lt-ltb, le-ltb}
use Rattle.facts.specs.FactSet.{has, difference}
use Rattle.job.specs.Resources.{store_amount}
use Rattle.job.specs.Job.{Job}
use Rattle.timeline.proofs.Tests.{le_or_lt}
use Rattle.times.specs.Earliest.{action_of}
use Rattle.tables.specs.Tables.{adds_at, DescribesEach}
use Rattle.landmarks.specs.Landmarks.{sum_over, Shares}
use Rattle.landmarks.specs.Tables.{KeptBefore, PutFrom, share_from, row_at, weight_at, Within, WithinAll}

-- ---- entries before a place stay, also when less is asked
pub kept_less : (less at n : ℕ) (xs ys : List ℕ) → less ≤ at → KeptBefore at n xs ys → KeptBefore less n xs ys
kept_less less at n xs ys l kept = record { size = kept.size; same = λ k m. kept.same k (omega arith) }

-- ---- sums of the same shares
sum_same : (f g : ℕ → ℕ) (n set : ℕ) → ((p : ℕ) → p < n → f p ≡ g p) → sum_over f n set ≡ sum_over g n set
unfolding sum_over
sum_same f g zero set h = refl
sum_same f g (suc n) set h =
    ap₂ ◌+◌ (ap (λ (k : ℕ). cond (has set n) k 0) (h n (omega arith))) (sum_same f g n set (λ p l. h p (omega arith)))

sum_of_zeros : (f : ℕ → ℕ) (n set : ℕ) → ((p : ℕ) → p < n → f p ≡ 0) → sum_over f n set ≡ 0
unfolding sum_over
sum_of_zeros f zero set h = refl
sum_of_zeros f (suc n) set h =
    let here : cond (has set n) (f n) 0 ≡ 0 = either (has set n) (h n (omega arith)) in
    let rest = sum_of_zeros f n set (λ p l. h p (omega arith)) in
    omega arith
  where
    either : (b : Bool) → f n ≡ 0 → cond b (f n) 0 ≡ 0
    either true e = e
    either false e = refl

-- ---- a row stays within the weights while only entries behind it change
module _ (sets : List ℕ) (start : ℕ) (xs ys : List ℕ) where
  same_weight : (at i row : ℕ) → 576 ≤ at → i < 64 → row < 9 → KeptBefore at 1220 xs ys
      → weight_at ys i row ≡ weight_at xs i row
  same_weight at i row l few inside kept =
      ⊎_elim
      (λ a.
      let first : row < 4 = omega arith in
      rw (lt-ltb row 4 first) (kept.same (i * 9 + 5 + row) (omega arith)))
      (λ a.
      rw (le-ltb row 4 (omega arith))
      (⊎_elim
      (λ b.
      let second : row < 8 = omega arith in
      rw (lt-ltb row 8 second)
      (ap₂ ◌*◌ (kept.same (i * 9 + 1 + (row - 4)) (omega arith)) (kept.same (i * 9) (omega arith))))
      (λ b. rw (le-ltb row 8 (omega arith)))
      (le_or_lt row 7)))
      (le_or_lt row 3)

  pub within_kept : (actions at row : ℕ) → actions ≤ 64 → row < 9 → row_at row + 64 ≤ at → KeptBefore at 1220 xs ys
      → Within sets xs actions start row → Within sets ys actions start row
  within_kept actions at row few inside l kept within i known =
      let same = sum_same (share_from ys (row_at row)) (share_from xs (row_at row)) 64 (difference (adds_at sets i) start)
      (λ p m. kept.same (row_at row + p) (omega arith)) in
      let weight = same_weight at i row (omega arith) (omega arith) inside kept in
      rw (same, weight) (within i known)

-- a row of nothing is within every weight
pub within_when_empty : (sets : List ℕ) (start : ℕ) (xs ys : List ℕ) (actions row : ℕ) → PutFrom 64 (row_at row) 0 xs ys
    → Within sets ys actions start row
within_when_empty sets start xs ys actions row put i known =
    let none = sum_of_zeros (share_from ys (row_at row)) 64 (difference (adds_at sets i) start) (λ p l. put.put p l) in
    omega arith

-- ---- row after row
pub rows_on : (sets : List ℕ) (start : ℕ) (xs ys : List ℕ) (actions row : ℕ) → actions ≤ 64 → row < 9
    → KeptBefore (row_at row) 1220 xs ys → Within sets ys actions start row
    → ((k : ℕ) → k < row → Within sets xs actions start k) → (k : ℕ) → k < row + 1 → Within sets ys actions start k
rows_on sets start xs ys actions row few inside kept here before k l =
    ⊎_elim (λ e. let same : k ≡ row = omega arith in rw same here)
    (λ less.
    within_kept sets start xs ys actions (row_at row) k few (omega arith) (omega arith) kept (before k (omega arith)))
    (eq-or-lt_of_le l)

-- ---- what the test of a store's row says of the job
pub stores_when_within : (J : Job) (sets numbers : List ℕ) (actions start : ℕ) → length J.actions ≡ actions
    → DescribesEach J sets numbers actions → WithinAll sets numbers actions start → (store : ℕ) → store < 4
    → store < length J.stores
    → Shares J start (share_from numbers (row_at store)) 64 (λ a. 2520 * store_amount J store a)
stores_when_within J sets numbers actions start count described within store few inside i known =
    let below : i < actions = omega arith in
    let d = described i below in
    let weight : weight_at numbers i store ≡ store_amount J store (action_of J i) =
    rw (lt-ltb store 4 few) (d.stores store inside) in
    rw (← d.adds, ← weight) (within store (omega arith) i below)

-- and the test of a pool's row
pub pools_when_within : (J : Job) (sets numbers : List ℕ) (actions start : ℕ) → length J.actions ≡ actions
    → DescribesEach J sets numbers actions → WithinAll sets numbers actions start → (pool : ℕ) → pool < 4
    → pool < length J.pools
    → Shares J start (share_from numbers (row_at (4 + pool))) 64 (λ a. 2520 * (get_or a.pools pool 0 * a.duration))
pools_when_within J sets numbers actions start count described within pool few inside i known =
    let below : i < actions = omega arith in
    let d = described i below in
    let place : 4 + pool - 4 ≡ pool = omega arith in
    let weight : weight_at numbers i (4 + pool) ≡ get_or (action_of J i).pools pool 0 * (action_of J i).duration =
    rw (le-ltb (4 + pool) 4 (omega arith), lt-ltb (4 + pool) 8 (omega arith), place)
    (ap₂ ◌*◌ (d.pools pool inside) d.duration) in
    rw (← d.adds, ← weight) (within (4 + pool) (omega arith) i below)

-- and that of the row of steps
pub steps_when_within : (J : Job) (sets numbers : List ℕ) (actions start : ℕ) → length J.actions ≡ actions
    → DescribesEach J sets numbers actions → WithinAll sets numbers actions start
    → Shares J start (share_from numbers (row_at 8)) 64 (λ a. 2520 * 1)
steps_when_within J sets numbers actions start count described within i known =
    let below : i < actions = omega arith in
    rw (← (described i below).adds) (within 8 (omega arith) i below)
