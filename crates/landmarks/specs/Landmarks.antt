-- Landmarks: the facts that every plan adds that makes a fact true; and shares, what a fact takes at least.
-- Assumes nothing.
use Rattle.std.specs.Prelude.{ℕ, zero, suc, ◌+◌, ◌-◌, ◌<◌, ◌≤◌, min, max, ◌≡◌, true, false, cond, ◌⊎◌, length}
use Rattle.facts.specs.FactSet.{has, union, difference}
use Rattle.job.specs.Job.{Action, Job}
use Rattle.timeline.specs.Step.{Step}
use Rattle.times.specs.Earliest.{action_of}

-- One set for each fact below n. A fact at hand has no landmarks; a landmark of another fact is that fact itself, or,
-- for each action that adds it, a landmark of some fact that the action needs.
pub record Landmarks (J : Job) (at_hand n : ℕ) (marks : ℕ → ℕ) : Type 0 where
  pub fresh : (q p : ℕ) → q < n → has (marks q) p ≡ true → has at_hand q ≡ false
  pub why : (q p : ℕ) → q < n → has (marks q) p ≡ true
      → (p ≡ q)
      ⊎ ((i : ℕ) → i < length J.actions → has (action_of J i).adds q ≡ true
      → (m : ℕ) × (m < n) × (has (action_of J i).needs m ≡ true) × (has (marks m) p ≡ true))

-- the landmarks of the facts below n of a set
unfoldable pub marks_of : (ℕ → ℕ) → ℕ → ℕ → ℕ
marks_of marks zero set = 0
marks_of marks (suc n) set = union (cond (has set n) (marks n) 0) (marks_of marks n set)

-- the sum over the facts below n of a set
unfoldable pub sum_over : (ℕ → ℕ) → ℕ → ℕ → ℕ
sum_over share zero set = 0
sum_over share (suc n) set = cond (has set n) (share n) 0 + sum_over share n set

-- the shares of what an action adds, without what is at hand, are together at most the action's weight
abbrev pub Shares : Job → ℕ → (ℕ → ℕ) → ℕ → (Action → ℕ) → Type 0
Shares J at_hand share n weight =
    (i : ℕ) → i < length J.actions
    → sum_over share n (difference (action_of J i).adds at_hand) ≤ weight (action_of J i)

-- the minutes of a step from m on and before t
abbrev pub minutes_in : ℕ → ℕ → Step → ℕ
minutes_in m t x = min x.stop t - max x.start m
