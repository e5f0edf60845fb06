-- From one state of the search to the next.
-- Assumes nothing.
use Rattle.std.specs.Prelude.{ℕ, ◌+◌, ◌-◌, ◌<◌, ◌≡◌, cond, ◌&&◌, ◌||◌, List, leb, ltb, get_or}
use Rattle.facts.specs.FactSet.{has, union, difference}
use Rattle.job.specs.Job.{Job}
use Rattle.timeline.specs.Step.{step_of}
use Rattle.regression.specs.Wanted.{added_between}
use Rattle.tables.specs.Tables.{DescribesAction, adds_at, duration_at, chosen, pushed, DescribesEach}
use Rattle.tables.specs.declared.Frame.{Frame}
use Rattle.tables.specs.declared.Steps.{Steps}
use Rattle.states.specs.declared.state.State.{State}
use Rattle.states.specs.Minutes.{JoinsStep, LooksAt}
use Rattle.states.specs.Amounts.{JoinsUses, LooksUses}

-- ---- an action stops at the state's minute

-- when it starts
abbrev pub start_of : List ℕ → State → ℕ → ℕ
start_of numbers st i = st.minute - duration_at numbers i

-- r is the state with action i stopping at its minute
pub record Taken (sets numbers handovers : List ℕ) (st : State) (i : ℕ) (r : State) : Type 0 where
  pub steps : r.steps ≡ pushed st.steps i (start_of numbers st i)
  pub minute : r.minute ≡ st.minute
  pub wanted : r.wanted ≡ st.wanted
  pub at : JoinsStep sets numbers st.minute i (start_of numbers st i) st.at r.at
  pub uses : JoinsUses numbers handovers st.minute i (start_of numbers st i) st.uses r.uses
  pub twice : (n : ℕ) → has r.twice n ≡ (has st.twice n || (has st.at.added n && has (adds_at sets i) n))
  pub since : r.since ≡ st.since

-- ---- back to the event minute before

-- no chosen step starts the handover after a minute that is after s and before t
abbrev pub NoStartBetween : ℕ → Steps → ℕ → ℕ → Type 0
NoStartBetween handover steps s t =
    (k : ℕ) → k < steps.count → (m : ℕ) → s < m → m < t → get_or steps.starts k 0 ≡ m + handover → ⊥

-- no chosen step has an event after minute s and before minute t: its start, or its start less the handover of a pool
pub record NoEventBetween (handovers : List ℕ) (pools : ℕ) (steps : Steps) (s t : ℕ) : Type 0 where
  pub starts : NoStartBetween 0 steps s t
  pub put_off : (pool : ℕ) → pool < pools → NoStartBetween (get_or handovers pool 0) steps s t

-- what a step of action i adds, if it stops after minute s and by minute t
abbrev pub GoneOf : List ℕ → List ℕ → ℕ → ℕ → ℕ → ℕ → ℕ → Type 0
GoneOf sets numbers i start s t set =
    (J : Job) → DescribesAction J sets numbers i
    → set ≡ cond (ltb s (step_of J i start).stop && leb (step_of J i start).stop t) (step_of J i start).action.adds 0

-- what the chosen steps add that stop after minute s and by minute t
abbrev pub Gone : List ℕ → List ℕ → ℕ → Steps → ℕ → ℕ → ℕ → Type 0
Gone sets numbers actions steps s t set =
    (J : Job) → DescribesEach J sets numbers actions → set ≡ added_between s t (chosen J steps)

-- r is the state at minute s
pub record Back (sets numbers : List ℕ) (frame : Frame) (s : ℕ) (st r : State) : Type 0 where
  pub steps : r.steps ≡ st.steps
  pub minute : r.minute ≡ s
  pub gone : ℕ
  pub is_gone : Gone sets numbers frame.actions st.steps s st.minute gone
  pub wanted : r.wanted ≡ union (difference st.wanted gone) r.at.needed
  pub at : LooksAt sets numbers frame.actions st.steps s r.at
  pub uses : LooksUses numbers frame.handovers frame.actions st.steps s r.uses
  pub twice : r.twice ≡ 0
  pub since : r.since ≡ st.steps.count
