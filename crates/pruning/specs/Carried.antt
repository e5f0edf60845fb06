-- The test of the facts that must be carried back from a state's minute.
-- Assumes nothing.
use Rattle.std.specs.Prelude.{ℕ, ◌-◌, ◌≤◌, ◌<◌, ◌≡◌, Bool, true, false, List}
use Rattle.facts.specs.FactSet.{has}
use Rattle.job.specs.Job.{Job}
use Rattle.landmarks.specs.Bounds.{TimesBound}
use Rattle.tables.specs.Tables.{Describes, adds_at, duration_at, chosen, kept_of, KeepsKept}
use Rattle.tables.specs.declared.Frame.{Frame}
use Rattle.states.specs.declared.state.State.{State}
use Rattle.states.specs.States.{Stands, DeadFor, OpenIn}

-- actions of which the step that stops at the state's minute fits
abbrev pub FitAll : List ℕ → Frame → State → ℕ → Type 0
FitAll numbers frame st left =
    (a : ℕ) → has left a ≡ true → (a < frame.actions) × (duration_at numbers a ≤ st.minute)

-- the set has all that the actions of `left` below n add
abbrev pub AddsOf : List ℕ → ℕ → ℕ → ℕ → Type 0
AddsOf sets left n set =
    (a fact : ℕ) → a < n → has left a ≡ true → has (adds_at sets a) fact ≡ true → has set fact ≡ true

-- m is before t, and not before `from` nor before the starts, if before t, of the actions of `left` below n
pub record LatestStart (numbers : List ℕ) (left t from n m : ℕ) : Type 0 where
  pub not_before : from ≤ m
  pub before : m < t
  pub starts : (a : ℕ) → a < n → has left a ≡ true → t - duration_at numbers a < t → t - duration_at numbers a ≤ m

-- a state with these undecided actions of which the test is false is a dead end
abbrev pub DeadUnlessCarried : List ℕ → List ℕ → List ℕ → Frame → State → ℕ → Bool → Type 0
DeadUnlessCarried sets numbers times frame st left test =
    test ≡ false → (J : Job) → Describes J sets numbers frame
    → TimesBound J frame.first (kept_of J frame) frame.origin times → KeepsKept frame st.steps
    → Stands J frame st
    → DeadFor J frame (OpenIn frame st left) (chosen J st.steps)
