-- Times and the numbers that stand for them: the number for unreachable is the largest.
-- Assumes nothing.
use Prim.Native.Nat.{ℕ, ◌<◌, ◌≤◌}
use mathlib.Core.Path.{◌≡◌, refl}
use mathlib.Core.Logic.{◌⊎◌, inl, inr}
use native.Mathlib.Nat.{le_refl}
use native.Mathlib.Omega.{arith}
use borrow.Author.Tests.{eq-eqb, ne_eqb}
use Rattle.times.specs.Time.{Time, at, unreachable}
use Rattle.times.specs.Numbers.{none, number_of, time_in}
use Rattle.times.specs.Choices.{By}

-- a time whose number stands for it: unreachable, or before the number for unreachable
abbrev pub Small : Time → Type 0
Small (at x) = x < none
Small unreachable = Unit

-- ---- there and back
pub time_of_none : (x : ℕ) → x ≡ none → time_in x ≡ unreachable
time_of_none x e = rw (eq-eqb x none e)

pub time_of_other : (x : ℕ) → (x ≡ none → ⊥) → time_in x ≡ at x
time_of_other x h = rw (ne_eqb x none h)

pub time_of_less : (x : ℕ) → x < none → time_in x ≡ at x
time_of_less x l = time_of_other x (λ e. omega arith)

pub time_of_number : (a : Time) → Small a → time_in (number_of a) ≡ a
time_of_number (at x) s = time_of_less x s
time_of_number unreachable s = time_of_none none refl

-- a time that is at most c where it is finite
abbrev pub AtMost : ℕ → Time → Type 0
AtMost c (at x) = x ≤ c
AtMost c unreachable = Unit

pub at_most_of_by : (c : ℕ) (a : Time) → ((t : ℕ) → By a t → By a c) → AtMost c a
at_most_of_by c (at x) h = h x (le_refl x)
at_most_of_by c unreachable h = tt

pub at_most_more : (c d : ℕ) (a : Time) → c ≤ d → AtMost c a → AtMost d a
at_most_more c d (at x) l m = omega arith
at_most_more c d unreachable l m = m

pub number_of_at_most : (c : ℕ) (a : Time) → AtMost c a → (number_of a ≡ none) ⊎ (number_of a ≤ c)
number_of_at_most c (at x) m = inr m
number_of_at_most c unreachable m = inl refl

pub small_at_most : (c : ℕ) (a : Time) → c < none → AtMost c a → Small a
small_at_most c (at x) l m = omega arith
small_at_most c unreachable l m = m

-- ---- at most a minute
pub by_not_none : (x t : ℕ) → By (time_in x) t → x ≡ none → ⊥
by_not_none x t h e = rw (time_of_none x e) at h

pub by_time_in : (x t : ℕ) → By (time_in x) t → x ≤ t
by_time_in x t h = rw (time_of_other x (by_not_none x t h)) at h

pub time_in_by : (x t : ℕ) → x < none → x ≤ t → By (time_in x) t
time_in_by x t l m = rw (time_of_less x l) m
