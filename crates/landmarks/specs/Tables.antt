-- Landmarks and shares in the tables of a job.
-- Assumes nothing.
use Rattle.std.specs.Prelude.{ℕ, ◌+◌, ◌*◌, ◌-◌, ◌≤◌, ◌<◌, ◌≡◌, true, cond, not, List, ltb, length, get_or}
use Rattle.facts.specs.FactSet.{has, union, difference, single, Subset}
use Rattle.tables.specs.Tables.{needs_at, adds_at, duration_at, pool_use_at, store_use_at}
use Rattle.tables.specs.Filled.{SameBefore}
use Rattle.landmarks.specs.Landmarks.{marks_of, sum_over}

-- where the table of sets has the landmarks of fact q
abbrev pub mark_at : List ℕ → ℕ → ℕ
mark_at sets q = get_or sets (256 + q) 0

-- the numbers of the table from a place on, as the shares of the facts
abbrev pub share_from : List ℕ → ℕ → ℕ → ℕ
share_from numbers at p = get_or numbers (at + p) 0

-- where the table of numbers has the row of a store, 0 to 3, of a pool, 4 to 7, or of steps, 8
abbrev pub row_at : ℕ → ℕ
row_at row = 576 + row * 64

-- what action i uses of the row's store, or its minutes times what it uses of the row's pool, or one for a step
abbrev pub weight_at : List ℕ → ℕ → ℕ → ℕ
weight_at numbers i row =
    cond (ltb row 4) (store_use_at numbers i row)
    (cond (ltb row 8) (pool_use_at numbers i (row - 4) * duration_at numbers i) 1)

-- the shares of what action i adds are within its weight, in parts of 2,520
abbrev pub WithinAt : List ℕ → List ℕ → ℕ → ℕ → ℕ → Type 0
WithinAt sets numbers start row i =
    sum_over (share_from numbers (row_at row)) 64 (difference (adds_at sets i) start) ≤ 2520 * weight_at numbers i row

-- and those of every action; in every row
abbrev pub Within : List ℕ → List ℕ → ℕ → ℕ → ℕ → Type 0
Within sets numbers actions start row = (i : ℕ) → i < actions → WithinAt sets numbers start row i

abbrev pub WithinAll : List ℕ → List ℕ → ℕ → ℕ → Type 0
WithinAll sets numbers actions start = (row : ℕ) → row < 9 → Within sets numbers actions start row

-- ---- what inner functions promise

-- ys has n entries; those before the place are as in xs
pub record KeptBefore (at n : ℕ) (xs ys : List ℕ) : Type 0 where
  pub size : length ys ≡ n
  pub same : SameBefore at xs ys

-- and of each of the first n entries from the place on holds what is asked of it
pub record PutBehind (at size n : ℕ) (Asked : List ℕ → ℕ → ℕ → Type 0) (xs ys : List ℕ) : Type 0 where
  pub kept : KeptBefore at size xs ys
  pub put : (k : ℕ) → k < n → Asked ys k (get_or ys (at + k) 0)

-- for the first n facts, nothing for those at the start and all for the others
abbrev pub Begun : ℕ → ℕ → ℕ → List ℕ → List ℕ → Type 0
Begun n start all = PutBehind 256 384 n (λ ys q set. set ≡ cond (not (has start q)) all 0)

-- n times the number from the place on
abbrev pub PutFrom : ℕ → ℕ → ℕ → List ℕ → List ℕ → Type 0
PutFrom n at number = PutBehind at 1220 n (λ ys k entry. entry ≡ number)

-- r is within the landmarks of what each action needs that adds q
abbrev pub ByAdders : List ℕ → ℕ → ℕ → ℕ → Type 0
ByAdders sets actions q r =
    (i : ℕ) → i < actions → has (adds_at sets i) q ≡ true → Subset r (marks_of (mark_at sets) 64 (needs_at sets i))

-- the table has landmarks for fact q
pub record ClosedAt (sets : List ℕ) (actions start q : ℕ) : Type 0 where
  pub at_hand : has start q ≡ true → mark_at sets q ≡ 0
  pub others : (i : ℕ) → i < actions → has (adds_at sets i) q ≡ true
      → Subset (mark_at sets q) (union (single q) (marks_of (mark_at sets) 64 (needs_at sets i)))

-- and for every fact
abbrev pub Closed : List ℕ → ℕ → ℕ → Type 0
Closed sets actions start = (q : ℕ) → q < 64 → ClosedAt sets actions start q
