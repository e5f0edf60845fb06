-- How many minutes at least pass from the stop of a step that adds a fact to the end of a plan that has a use for it.
-- Inner functions and laws alone cite it. Assumes nothing.
use Rattle.std.specs.Prelude.{ℕ, ◌+◌, ◌<◌, ◌≤◌, ◌≡◌, true, length}
use Rattle.facts.specs.FactSet.{has}
use Rattle.job.specs.Job.{Job}
use Rattle.times.specs.Earliest.{action_of}

-- 0 for a fact of the goal; for one that an action needs no more than that action lasts, and then the tail of any fact
-- that it adds
pub record Tails (J : Job) (goal : ℕ) (tail : ℕ → ℕ) : Type 0 where
  pub of_goal : (p : ℕ) → has goal p ≡ true → tail p ≡ 0
  pub of_needs : (i p q : ℕ) → i < length J.actions → has (action_of J i).needs p ≡ true
      → has (action_of J i).adds q ≡ true → tail p ≤ (action_of J i).duration + tail q
