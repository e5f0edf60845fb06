-- How many entries of a table are at most a minute; where that number stays, so do the entries.
-- Assumes nothing.
use Prim.Native.Nat.{ℕ, zero, suc, ◌+◌, ◌<◌, ◌≤◌}
use mathlib.Core.Path.{◌≡◌, refl}
use mathlib.Core.Bool.{Bool, true, false, cond}
use mathlib.Core.Logic.{⊎_elim}
use native.Mathlib.Nat.{eq-or-lt_of_le}
use native.Mathlib.Omega.{arith}
use lib.Dec.{leb}
use borrow.Author.Tests.{leb-true, le-leb}
use Rattle.times.specs.Time.{Time, at, unreachable}
use Rattle.times.specs.Earliest.{Table}
use Rattle.times.specs.Choices.{By}

-- f 0 + .. + f (n - 1)
abbrev sum_to : ℕ → (ℕ → ℕ) → ℕ
sum_to zero f = 0
sum_to (suc n) f = f n + sum_to n f

-- 1 if the time is at most t, and 0 otherwise
abbrev bit : Time → ℕ → ℕ
bit (at x) t = cond (leb x t) 1 0
bit unreachable t = 0

-- the number of entries for n facts
abbrev pub entries : ℕ → ℕ
entries n = sum_to n (λ q. sum_to (suc q) (λ p. 1))

-- the number of entries that are at most t
abbrev pub entries_by : Table → ℕ → ℕ → ℕ
entries_by T n t = sum_to n (λ q. sum_to (suc q) (λ p. bit (T p q) t))

-- ---- sums
sum_mono : (n : ℕ) (f g : ℕ → ℕ) → ((k : ℕ) → k < n → f k ≤ g k) → sum_to n f ≤ sum_to n g
sum_mono zero f g h = omega arith
sum_mono (suc n) f g h =
    let a = h n (omega arith) in let b = sum_mono n f g (λ k l. h k (omega arith)) in omega arith

-- equal sums of terms of which none is larger
sum_same : (n : ℕ) (f g : ℕ → ℕ) → ((k : ℕ) → k < n → f k ≤ g k) → sum_to n g ≤ sum_to n f
    → (k : ℕ) → k < n → g k ≤ f k
sum_same zero f g h e k l = absurd (omega arith)
sum_same (suc n) f g h e k l =
    let a = h n (omega arith) in
    let b = sum_mono n f g (λ k l. h k (omega arith)) in
    let last : g n ≤ f n = omega arith in
    ⊎_elim (λ z. let same : k ≡ n = omega arith in rw same last)
    (λ m. sum_same n f g (λ k l. h k (omega arith)) (omega arith) k (omega arith))
    (eq-or-lt_of_le l)

module _ (n : ℕ) (f g : ℕ → ℕ → ℕ) (h : (p q : ℕ) → p ≤ q → q < n → f p q ≤ g p q) where
  columns : (q : ℕ) → q < n → sum_to (suc q) (λ p. f p q) ≤ sum_to (suc q) (λ p. g p q)
  columns q l = sum_mono (suc q) (λ p. f p q) (λ p. g p q) (λ p m. h p q (omega arith) l)

  table_same : sum_to n (λ q. sum_to (suc q) (λ p. g p q)) ≤ sum_to n (λ q. sum_to (suc q) (λ p. f p q))
      → (p q : ℕ) → p ≤ q → q < n → g p q ≤ f p q
  table_same e p q a b =
      sum_same (suc q) (λ p. f p q) (λ p. g p q) (λ p m. h p q (omega arith) b)
      (sum_same n (λ q. sum_to (suc q) (λ p. f p q)) (λ q. sum_to (suc q) (λ p. g p q)) columns e q b)
      p (omega arith)

-- ---- bits
bit_at_most_one : (a : Time) (t : ℕ) → bit a t ≤ 1
bit_at_most_one (at x) t = go (leb x t)
  where
    go : (b : Bool) → cond b 1 0 ≤ 1
    go true = omega arith
    go false = omega arith
bit_at_most_one unreachable t = omega arith

by_bit : (a : Time) (t : ℕ) → 1 ≤ bit a t → By a t
by_bit (at x) t h = go (leb x t) refl h
  where
    go : (b : Bool) → leb x t ≡ b → 1 ≤ cond b 1 0 → x ≤ t
    go true e l = leb-true x t e
    go false e l = absurd (omega arith)
by_bit unreachable t h = absurd (omega arith)

bit_by : (a : Time) (t : ℕ) → By a t → bit a t ≡ 1
bit_by (at x) t h = rw (le-leb x t h)
bit_by unreachable t h = absurd h

bit_mono : (a : Time) (t u : ℕ) → t ≤ u → bit a t ≤ bit a u
bit_mono (at x) t u l = go (leb x t) refl
  where
    go : (b : Bool) → leb x t ≡ b → cond b 1 0 ≤ bit (at x) u
    go true e = let m = leb-true x t e in let k = bit_by (at x) u (omega arith) in omega arith
    go false e = omega arith
bit_mono unreachable t u l = omega arith

-- ---- entries
module _ (T : Table) (n : ℕ) where
  -- no entry is new between two minutes with the same number
  pub same_entries : (t u : ℕ) → t ≤ u → entries_by T n u ≤ entries_by T n t
      → (p q : ℕ) → p ≤ q → q < n → By (T p q) u → By (T p q) t
  same_entries t u l e p q a b h =
      let k =
      table_same n (λ p q. bit (T p q) t) (λ p q. bit (T p q) u) (λ p q a b. bit_mono (T p q) t u l) e p q a b in
      let m = bit_by (T p q) u h in
      by_bit (T p q) t (omega arith)

  pub all_entries : (t : ℕ) → entries n ≤ entries_by T n t → (p q : ℕ) → p ≤ q → q < n → By (T p q) t
  all_entries t e p q a b =
      by_bit (T p q) t
      (table_same n (λ p q. bit (T p q) t) (λ p q. 1) (λ p q a b. bit_at_most_one (T p q) t) e p q a b)

pub entries_mono : (m n : ℕ) → m ≤ n → entries m ≤ entries n
entries_mono m zero l = let e : m ≡ 0 = omega arith in rw e (omega arith)
entries_mono m (suc n) l =
    ⊎_elim (λ e. rw e (omega arith)) (λ k. let i = entries_mono m n (omega arith) in omega arith) (eq-or-lt_of_le l)

pub entries_64 : entries 64 ≡ 2080
entries_64 = refl
