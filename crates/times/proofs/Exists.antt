-- The equations of earliest times have a solution: lower one entry after the other to its right side, while one falls.
-- Assumes nothing.
use Prim.Native.Nat.{ℕ, zero, suc, ◌+◌, ◌*◌, ◌<◌, ◌≤◌}
use mathlib.Core.Path.{◌≡◌}
use mathlib.Core.Logic.{◌⊎◌, inl, inr, ⊎_elim}
use mathlib.Core.List.{List}
use native.Mathlib.Nat.{le_refl, eq-or-lt_of_le}
use native.Mathlib.Omega.{arith}
use lib.ListN.{get_or, set, replicate}
use Rattle.job.specs.Job.{Job}
use Rattle.timeline.proofs.Tests.{le_or_lt}
use Rattle.times.specs.Time.{Time, at, unreachable}
use Rattle.times.specs.Earliest.{Table, right_side, Solves}
use Rattle.pairs.specs.Pairs.{entry_of}
use Rattle.times.specs.Numbers.{none, number_of, time_in, table_in}
use Rattle.times.specs.Choices.{By}
use Rattle.times.specs.Entries.{sum, Kept, finite_in}
use Rattle.times.proofs.Finite.{LongestDuration}
use Rattle.times.proofs.Iteration.{solves_when_settled}
use Rattle.times.proofs.Sentinel.{number_of_at_most, Small, time_of_number, time_in_by}
use Rattle.times.proofs.Slots.{entry_before_2080}
use Rattle.times.proofs.Falling.{sum_falls, lowered_to_right_side}
use Rattle.times.proofs.Kept.{kept_at_first, entry_inside, entry_at_most_none}
use Rattle.times.proofs.Kept.{right_side_at_most, right_side_small, kept_when_written}

module _ (J : Job) (durations : LongestDuration J 255) (few : J.facts ≤ 64) (xs : List ℕ) (kept : Kept J xs) where
  -- an entry put to the number of its right side
  module _ (p q : ℕ) (a : p ≤ q) (b : q < J.facts)
      (less : number_of (right_side J (table_in xs) p q) < get_or xs (entry_of p q) none) where
    old : get_or xs (entry_of p q) none ≤ none
    old = entry_at_most_none J few xs kept (entry_of p q) (entry_before_2080 p q a (omega arith))

    pub kept_at_right_side : Kept J (set xs (entry_of p q) (number_of (right_side J (table_in xs) p q)))
    kept_at_right_side =
        let o = old in
        let l = less in
        let v : ℕ = number_of (right_side J (table_in xs) p q) in
        kept_when_written J few xs kept p q v a b less
        (⊎_elim (λ e. absurd (omega arith)) (λ m. m)
        (number_of_at_most (255 + 255 * finite_in xs) (right_side J (table_in xs) p q)
        (right_side_at_most J durations few xs kept p q)))
        (lowered_to_right_side J xs p q v a (entry_inside J few xs kept p q a b) old (omega arith)
        (time_of_number (right_side J (table_in xs) p q) (right_side_small J durations few xs kept p q)))

  -- no entry can fall: the table solves the equations
  pub solves_when_none_falls : ((p q : ℕ) → p ≤ q → q < J.facts
      → get_or xs (entry_of p q) none ≤ number_of (right_side J (table_in xs) p q)) → Solves J (table_in xs)
  solves_when_none_falls done =
      solves_when_settled J (table_in xs) kept.least
      (λ p q t a b. go (get_or xs (entry_of p q) none) (right_side J (table_in xs) p q) t
      (right_side_small J durations few xs kept p q) (done p q a b))
    where
      go : (x : ℕ) (r : Time) (t : ℕ) → Small r → x ≤ number_of r → By r t → By (time_in x) t
      go x (at y) t s l h = time_in_by x t (omega arith) (omega arith)
      go x unreachable t s l h = absurd h

-- one of n places, or none
pub place_or_none : (n : ℕ) (A B : ℕ → Type 0) → ((k : ℕ) → A k ⊎ B k)
    → ((k : ℕ) × (k < n) × A k) ⊎ ((k : ℕ) → k < n → B k)
place_or_none zero A B which = inr (λ k l. absurd (omega arith))
place_or_none (suc n) A B which =
    ⊎_elim (λ x. inl (n, le_refl (suc n), x))
    (λ y.
    ⊎_elim (λ r. let l = r.1 in inl (r.0, omega arith, r.2))
    (λ all.
    inr
    (λ k l.
    ⊎_elim (λ e. let z : k ≡ n = omega arith in rw z y) (λ m. all k (omega arith)) (eq-or-lt_of_le l)))
    (place_or_none n A B which))
    (which n)

module _ (J : Job) (durations : LongestDuration J 255) (few : J.facts ≤ 64) where
  -- the entry of p and q can fall, or cannot
  abbrev CanFall : List ℕ → ℕ → ℕ → Type 0
  CanFall xs q p = number_of (right_side J (table_in xs) p q) < get_or xs (entry_of p q) none

  abbrev Stays : List ℕ → ℕ → ℕ → Type 0
  Stays xs q p = get_or xs (entry_of p q) none ≤ number_of (right_side J (table_in xs) p q)

  -- so for some entry of row q, or for all
  abbrev RowFalls : List ℕ → ℕ → Type 0
  RowFalls xs q = (p : ℕ) × (p < suc q) × CanFall xs q p

  abbrev RowStays : List ℕ → ℕ → Type 0
  RowStays xs q = (p : ℕ) → p < suc q → Stays xs q p

  falls_or_settled : (xs : List ℕ)
      → ((q : ℕ) × (q < J.facts) × RowFalls xs q) ⊎ ((q : ℕ) → q < J.facts → RowStays xs q)
  falls_or_settled xs =
      place_or_none J.facts (RowFalls xs) (RowStays xs)
      (λ q.
      place_or_none (suc q) (CanFall xs q) (Stays xs q)
      (λ p.
      ⊎_elim (λ l. inr l) (λ l. inl l)
      (le_or_lt (get_or xs (entry_of p q) none) (number_of (right_side J (table_in xs) p q)))))

  -- the sum of the entries falls, so this ends
  lowered_until_settled : (fuel : ℕ) (xs : List ℕ) → sum xs < fuel → Kept J xs
      → (ys : List ℕ) × Kept J ys × Solves J (table_in ys)
  lowered_until_settled zero xs l kept = absurd (omega arith)
  lowered_until_settled (suc fuel) xs l kept =
      ⊎_elim
      (λ r.
      let q : ℕ = r.0 in
      let p : ℕ = r.2.0 in
      let b : q < J.facts = r.1 in
      let c : p < suc q = r.2.1 in
      let a : p ≤ q = omega arith in
      let less : CanFall xs q p = r.2.2 in
      let v : ℕ = number_of (right_side J (table_in xs) p q) in
      let s = sum_falls xs (entry_of p q) v none (entry_inside J few xs kept p q a b) less in
      lowered_until_settled fuel (set xs (entry_of p q) v) (omega arith)
      (kept_at_right_side J durations few xs kept p q a b less))
      (λ all.
      (xs, kept, solves_when_none_falls J durations few xs kept (λ p q a b. all q b p (omega arith))))
      (falls_or_settled xs)

  -- a list of numbers that stands for the solution
  pub solution_in_numbers : (ys : List ℕ) × Kept J ys × Solves J (table_in ys)
  solution_in_numbers =
      lowered_until_settled (suc (sum (replicate 2080 none))) (replicate 2080 none)
      (le_refl (suc (sum (replicate 2080 none)))) (kept_at_first J few)

  pub solution : (T : Table) × Solves J T
  solution = let r = solution_in_numbers in (table_in r.0, r.2)
