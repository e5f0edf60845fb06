-- Writing a smaller number into the list of entries: the sum falls, and the table is lowered.
-- Assumes nothing.
use Prim.Native.Nat.{ℕ, zero, suc, ◌+◌, ◌<◌, ◌≤◌}
use mathlib.Core.Path.{◌≡◌, sym}
use mathlib.Core.Logic.{◌⊎◌, inl, inr, ⊎_elim}
use mathlib.Core.List.{List, [], ◌∷◌}
use native.Mathlib.Omega.{arith}
use lib.ListN.{get_or, length, set}
use Rattle.job.specs.Job.{Job}
use Rattle.times.specs.Earliest.{Table, right_side}
use Rattle.pairs.specs.Pairs.{entry_of}
use Rattle.times.specs.Numbers.{none, time_in, table_in}
use Rattle.times.specs.Choices.{By}
use Rattle.times.specs.Entries.{sum}
use Rattle.times.proofs.Times.{by_same}
use Rattle.times.proofs.Iteration.{Lowered}
use Rattle.times.proofs.Sentinel.{by_not_none, by_time_in, time_of_other}
use Rattle.times.proofs.Slots.{table_at_entry_set, table_at_other_entry, same_pair_or_other}

-- ---- the sum
pub sum_after_set : (xs : List ℕ) (k v d : ℕ) → k < length xs → sum (set xs k v) + get_or xs k d ≡ sum xs + v
sum_after_set [] k v d l = absurd (omega arith)
sum_after_set (x ∷ xs) zero v d l = omega arith
sum_after_set (x ∷ xs) (suc k) v d l = let e = sum_after_set xs k v d (omega arith) in omega arith

pub sum_falls : (xs : List ℕ) (k v d : ℕ) → k < length xs → v < get_or xs k d → sum (set xs k v) < sum xs
sum_falls xs k v d l m = let e = sum_after_set xs k v d l in omega arith

-- a smaller number is an earlier time, unless it is the one for unreachable
pub by_smaller : (v x t : ℕ) → v ≤ x → x ≤ none → By (time_in x) t → By (time_in v) t
by_smaller v x t l m h =
    let n = by_not_none x t h in
    let b = by_time_in x t h in
    rw (time_of_other v (λ e. n (omega arith))) (omega arith)

-- ---- the table with one entry written
module _ (J : Job) (xs : List ℕ) (p q v : ℕ) (ordered : p ≤ q) (inside : entry_of p q < length xs) where
  abbrev written : Table
  written = table_in (set xs (entry_of p q) v)

  module _ (falls : (t : ℕ) → By (table_in xs p q) t → By (time_in v) t)
      (allowed : (t : ℕ) → By (time_in v) t → By (table_in xs p q) t ⊎ By (right_side J (table_in xs) p q) t) where
    here_falls : (r s t : ℕ) → (r ≡ p) × (s ≡ q) → By (table_in xs r s) t → By (written r s) t
    here_falls r s t (e, f) h =
        rw (e, f)
        (by_same t (sym (table_at_entry_set xs p q v inside)) (falls t (rw (e, f) at h)))

    here_allowed : (r s t : ℕ) → (r ≡ p) × (s ≡ q) → By (written r s) t
        → By (table_in xs r s) t ⊎ By (right_side J (table_in xs) r s) t
    here_allowed r s t (e, f) h =
        rw (e, f)
        (allowed t (by_same t (table_at_entry_set xs p q v inside) (rw (e, f) at h)))

    -- an entry lowered no further than its right side
    pub lowered_by_set : Lowered J (table_in xs) (table_in (set xs (entry_of p q) v))
    lowered_by_set =
        record {
          falls = λ r s t a b h.
              ⊎_elim (λ e. here_falls r s t e h)
              (λ o. by_same t (sym (table_at_other_entry xs p q v r s ordered a o)) h)
              (same_pair_or_other r s p q);
          allowed = λ r s t a b h.
              ⊎_elim (λ e. here_allowed r s t e h)
              (λ o. inl (by_same t (table_at_other_entry xs p q v r s ordered a o) h))
              (same_pair_or_other r s p q);
        }

  -- the same, by numbers: v is at most the old number, and at most a minute only where the right side is
  pub lowered_by_number : get_or xs (entry_of p q) none ≤ none → v ≤ get_or xs (entry_of p q) none
      → ((t : ℕ) → By (time_in v) t → By (table_in xs p q) t ⊎ By (right_side J (table_in xs) p q) t)
      → Lowered J (table_in xs) (table_in (set xs (entry_of p q) v))
  lowered_by_number small less allowed =
      lowered_by_set (λ t. by_smaller v (get_or xs (entry_of p q) none) t less small) allowed

  -- the entry put to the number of its right side
  pub lowered_to_right_side : get_or xs (entry_of p q) none ≤ none → v ≤ get_or xs (entry_of p q) none
      → time_in v ≡ right_side J (table_in xs) p q → Lowered J (table_in xs) (table_in (set xs (entry_of p q) v))
  lowered_to_right_side small less e = lowered_by_number small less (λ t h. inr (by_same t e h))
