-- Tests of a state: what its steps add, and what they need, against the earliest times.
-- Assumes nothing.
use Rattle.std.specs.Prelude.{ℕ, ◌≤◌, ◌≡◌, Bool, false, cond, ◌&&◌, List, leb, ltb}
use Rattle.job.specs.Job.{Job}
use Rattle.timeline.specs.Step.{step_of}
use Rattle.regression.specs.Tests.{running_needs}
use Rattle.regression.specs.DeadEnd.{Until}
use Rattle.tables.specs.Tables.{DescribesAction, DescribesEach, Describes, Known, chosen, kept_of, from_of, KeepsKept}
use Rattle.tables.specs.declared.Frame.{Frame}
use Rattle.tables.specs.declared.Steps.{Steps}
use Rattle.landmarks.specs.Bounds.{TimesBound}
use Rattle.states.specs.declared.state.State.{State}
use Rattle.states.specs.States.{Stands, DeadFor, DeadBy}

-- ---- what its steps add

-- a state of which the test is false is a dead end
abbrev pub DeadUnless : List ℕ → State → Bool → Type 0
DeadUnless sets st test =
    test ≡ false → (numbers : List ℕ) (frame : Frame) → Known frame.actions st.steps
    → DeadBy sets numbers frame st

-- ---- what they need, against the earliest times

-- the needs of a step of action i, if it runs at minute t
abbrev pub NeedOf : List ℕ → List ℕ → ℕ → ℕ → ℕ → ℕ → Type 0
NeedOf sets numbers i start t set =
    (J : Job) → DescribesAction J sets numbers i
    → set ≡ cond (leb (step_of J i start).start t && ltb t (step_of J i start).stop) (step_of J i start).action.needs 0

-- the needs of the chosen steps that run at minute t
abbrev pub NeedsAt : List ℕ → List ℕ → ℕ → Steps → ℕ → ℕ → Type 0
NeedsAt sets numbers actions steps t set =
    (J : Job) → DescribesEach J sets numbers actions → set ≡ running_needs t (chosen J steps)

-- chosen steps of which the test is false are a dead end at any minute
abbrev pub DeadUnlessReached : List ℕ → List ℕ → List ℕ → Frame → Steps → Bool → Type 0
DeadUnlessReached sets numbers times frame steps test =
    test ≡ false → (J : Job) → Describes J sets numbers frame
    → TimesBound J frame.first (kept_of J frame) frame.origin times → KeepsKept frame steps → (t : ℕ)
    → frame.first ≤ frame.horizon
    → DeadFor J frame (Until (from_of frame) t) (chosen J steps)

-- a state of which the test is false is a dead end
abbrev pub DeadUnlessTimely : List ℕ → List ℕ → List ℕ → Frame → State → Bool → Type 0
DeadUnlessTimely sets numbers times frame st test =
    test ≡ false → (J : Job) → Describes J sets numbers frame
    → TimesBound J frame.first (kept_of J frame) frame.origin times → KeepsKept frame st.steps
    → frame.first ≤ frame.horizon → Stands J frame st
    → DeadFor J frame (Until (from_of frame) st.minute) (chosen J st.steps)
