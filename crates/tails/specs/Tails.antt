-- The tails of facts in a table of numbers: how many minutes at least pass from the stop of a step that adds a fact to the
-- end of a plan that has a use for it. Inner functions and laws alone cite these.
-- Assumes nothing.
use Rattle.std.specs.Prelude.{ℕ, ◌+◌, ◌<◌, ◌≤◌, ◌≡◌, true, List, length, get_or}
use Rattle.facts.specs.FactSet.{has}
use Rattle.tables.specs.Tables.{needs_at, adds_at, duration_at}

-- r is at most the tail of each fact of the set
abbrev pub AtMostEach : List ℕ → ℕ → ℕ → Type 0
AtMostEach tails set r = (p : ℕ) → has set p ≡ true → r ≤ get_or tails p 0

-- the tail of each fact of the set is at most r
abbrev pub EachAtMost : List ℕ → ℕ → ℕ → Type 0
EachAtMost tails set r = (p : ℕ) → has set p ≡ true → get_or tails p 0 ≤ r

-- r is at most as long as action i lasts, and then the tail of any fact that it adds
abbrev pub Through : List ℕ → List ℕ → List ℕ → ℕ → ℕ → Type 0
Through sets numbers tails i r =
    (q : ℕ) → has (adds_at sets i) q ≡ true → r ≤ duration_at numbers i + get_or tails q 0

-- what action i needs has no longer tail than the action lasts, and then the tail of any fact that it adds
abbrev pub ClosedAt : List ℕ → List ℕ → List ℕ → ℕ → Type 0
ClosedAt sets numbers tails i =
    (q : ℕ) → has (adds_at sets i) q ≡ true → EachAtMost tails (needs_at sets i) (duration_at numbers i + get_or tails q 0)

-- the tails for a goal
pub record TailTable (sets numbers : List ℕ) (actions goal : ℕ) (tails : List ℕ) : Type 0 where
  pub size : length tails ≡ 64
  pub of_goal : EachAtMost tails goal 0
  pub of_needs : (i : ℕ) → i < actions → ClosedAt sets numbers tails i

-- each of 64 entries is so much
pub record AllAre (tails : List ℕ) (minutes : ℕ) : Type 0 where
  pub size : length tails ≡ 64
  pub each : (p : ℕ) → p < 64 → get_or tails p 0 ≡ minutes
