-- The equations of earliest times have at most one solution: "lengths are positive, so only one table solves this".
-- Assumes nothing.
use Prim.Native.Nat.{ℕ, zero, suc, ◌<◌, ◌≤◌}
use mathlib.Core.Path.{◌≡◌, sym}
use native.Mathlib.Nat.{le_refl}
use native.Mathlib.Omega.{arith}
use Rattle.job.specs.Job.{Job}
use Rattle.times.specs.Earliest.{Table, time_of, Solves}
use Rattle.times.specs.Choices.{By}
use Rattle.times.proofs.Times.{by_ext, by_same, by_time_of, time_of_by}
use Rattle.times.proofs.Monotone.{PositiveDurations, right_side_mono_before}

pub one_solution : (J : Job) → PositiveDurations J → (T U : Table) → Solves J T → Solves J U
    → (p q : ℕ) → p ≤ q → q < J.facts → T p q ≡ U p q
one_solution J durations T U st su p q a b =
    by_ext (T p q) (U p q) (λ t. no_later T U st su (suc t) t (le_refl (suc t)) p q a b)
    (λ t. no_later U T su st (suc t) t (le_refl (suc t)) p q a b)
  where
    -- by strong induction on the minute
    no_later : (T U : Table) → Solves J T → Solves J U → (fuel t : ℕ) → t < fuel → (p q : ℕ) → p ≤ q → q < J.facts
        → By (T p q) t → By (U p q) t
    no_later T U st su zero t l p q a b h = absurd (omega arith)
    no_later T U st su (suc fuel) t l p q a b h =
        by_same t (sym (su p q a b))
        (right_side_mono_before J durations T U t (λ x y u c. no_later T U st su fuel u (omega arith) x y) p q
        (by_same t (st p q a b) h))

-- and so the time of a set is the same in both
pub one_solution_of_sets : (J : Job) → PositiveDurations J → (T U : Table) → Solves J T → Solves J U
    → (set : ℕ) → time_of J T set ≡ time_of J U set
one_solution_of_sets J durations T U st su set =
    by_ext (time_of J T set) (time_of J U set) (λ t. no_later T U st su t) (λ t. no_later U T su st t)
  where
    no_later : (T U : Table) → Solves J T → Solves J U → (t : ℕ) → By (time_of J T set) t → By (time_of J U set) t
    no_later T U st su t h =
        time_of_by J U set t
        (λ p q a b hp hq.
        by_same t (one_solution J durations T U st su p q a b) (by_time_of J T set t h p q a b hp hq))
