-- A state of the search: the chosen steps, the minute that it stands at, and what is wanted then.
-- Assumes nothing.
use Rattle.std.specs.Prelude.{ℕ, ◌+◌, ◌≤◌, ◌<◌, ◌≡◌, Bool, true, false, not, ◌⊎◌, List, ◌∷◌, get_or}
use Rattle.facts.specs.FactSet.{has, union, single, meets, Subset}
use Rattle.job.specs.Job.{Job}
use Rattle.timeline.specs.Step.{Step, step_of}
use Rattle.timeline.specs.From.{IsNew, FitsFrom}
use Rattle.timeline.specs.Places.{Member}
use Rattle.times.specs.Earliest.{action_of}
use Rattle.regression.specs.Wanted.{wanted_at}
use Rattle.regression.specs.DeadEnd.{Until, Open, Dead, step_stopping}
use Rattle.tables.specs.Tables.{Describes, Known, chosen, duration_at, clashes_at, Lent, from_of}
use Rattle.tables.specs.declared.Frame.{Frame}
use Rattle.states.specs.declared.state.State.{State}
use Rattle.states.specs.Minutes.{MinuteOf}
use Rattle.states.specs.Amounts.{UsesOf, Small}

-- two steps of different actions stop at minute t and add fact n
pub record AddedTwice (t n : ℕ) (L : List Step) : Type 0 where
  pub one : Step
  pub other : Step
  pub one_in : Member one L
  pub other_in : Member other L
  pub different : one.number ≡ other.number → ⊥
  pub one_stops : one.stop ≡ t
  pub other_stops : other.stop ≡ t
  pub one_adds : has one.action.adds n ≡ true
  pub other_adds : has other.action.adds n ≡ true

-- what the state says of the chosen steps is so
pub record Stands (J : Job) (frame : Frame) (st : State) : Type 0 where
  pub in_time : st.minute ≤ frame.horizon
  pub wants : st.wanted ≡ wanted_at frame.goal (chosen J st.steps) frame.horizon st.minute
  pub at : MinuteOf st.minute (chosen J st.steps) st.at
  pub uses : UsesOf J st.minute (chosen J st.steps) st.uses
  pub twice : (n : ℕ) → has st.twice n ≡ true → AddedTwice st.minute n (chosen J st.steps)
  pub enders : (k : ℕ) → st.since ≤ k → k < st.steps.count
      → IsNew (from_of frame) (step_of J (get_or st.steps.numbers k 0) (get_or st.steps.starts k 0))
      × (get_or st.steps.starts k 0 + (action_of J (get_or st.steps.numbers k 0)).duration ≡ st.minute)
  pub later : (k : ℕ) → frame.kept.count ≤ k → k < st.since
      → st.minute < get_or st.steps.starts k 0 + (action_of J (get_or st.steps.numbers k 0)).duration

-- no normal plan has the chosen steps and else only steps that are X
abbrev pub DeadFor : Job → Frame → (Step → Type 0) → List Step → Type 0
DeadFor J frame X L = Dead J (from_of frame) frame.goal frame.horizon X L

-- the actions of the set are not decided at the minute
abbrev pub OpenIn : Frame → State → ℕ → Step → Type 0
OpenIn frame st left = Open (from_of frame) st.minute (λ a. not (has left a))

-- the step of action i that stops at the state's minute
abbrev pub next_step : Job → State → ℕ → Step
next_step J st i = step_stopping J i st.minute

-- action i does not stop at the state's minute in any normal plan with the chosen steps
abbrev pub Barred : Job → Frame → State → ℕ → Type 0
Barred J frame st i =
    FitsFrom (from_of frame) i (action_of J i).duration st.minute
    → DeadFor J frame (Until (from_of frame) st.minute) (next_step J st i ∷ chosen J st.steps)

-- the same for each job that the tables describe
abbrev pub BarredBy : List ℕ → List ℕ → Frame → State → ℕ → Type 0
BarredBy sets numbers frame st i = (J : Job) → Describes J sets numbers frame → Stands J frame st → Barred J frame st i

-- no normal plan has the chosen steps, and else new steps that stop by the state's minute
abbrev pub DeadBy : List ℕ → List ℕ → Frame → State → Type 0
DeadBy sets numbers frame st =
    (J : Job) → Describes J sets numbers frame → Stands J frame st
    → DeadFor J frame (Until (from_of frame) st.minute) (chosen J st.steps)

-- the tables and the state are safe to read
pub record Safe (sets numbers : List ℕ) (frame : Frame) (st : State) : Type 0 where
  pub lent : Lent sets numbers frame.actions
  pub known : Known frame.actions st.steps
  pub pools : frame.pools ≤ 4
  pub stores : frame.stores ≤ 4
  pub since : st.since ≤ st.steps.count
  pub small : Small st.steps.count st.uses

-- ---- what inner functions promise

-- what the sets of action i say of it
pub record SetsAllow (sets : List ℕ) (st : State) (i : ℕ) (allow : Bool) : Type 0 where
  pub apart : allow ≡ true → meets (clashes_at sets i) st.at.running ≡ false
  pub barred : allow ≡ false → (numbers : List ℕ) (frame : Frame) → i < frame.actions
      → Known frame.actions st.steps
      → BarredBy sets numbers frame st i

-- by the table of numbers, the step of action i that stops at the state's minute is new
abbrev pub Fits : List ℕ → Frame → State → ℕ → Type 0
Fits numbers frame st i = FitsFrom (from_of frame) i (duration_at numbers i) st.minute

-- the test is whether it is
pub record TellsNew (numbers : List ℕ) (frame : Frame) (st : State) (i : ℕ) (test : Bool) : Type 0 where
  pub new : test ≡ true → Fits numbers frame st i
  pub not_new : test ≡ false → Fits numbers frame st i → ⊥

-- an action that may stop at the state's minute has room, its step is new, and it does not run in the minute before;
-- one that may not is barred
pub record MayStop (sets numbers : List ℕ) (frame : Frame) (st : State) (i : ℕ) (may : Bool) : Type 0 where
  pub room : may ≡ true → st.steps.count < 32
  pub fits : may ≡ true → Fits numbers frame st i
  pub apart : may ≡ true → meets (clashes_at sets i) st.at.running ≡ false
  pub barred : may ≡ false → BarredBy sets numbers frame st i

-- r is the set with action k, if that may stop at the state's minute
abbrev pub WithCandidate : List ℕ → List ℕ → Frame → State → ℕ → ℕ → ℕ → Type 0
WithCandidate sets numbers frame st k set r =
    ((r ≡ set) × (k < frame.actions → BarredBy sets numbers frame st k))
    ⊎ ((r ≡ union (single k) set) × (k < frame.actions) × MayStop sets numbers frame st k true)

-- r has those of the undecided actions below n that may stop at the state's minute; the others are barred
pub record Candidates (sets numbers : List ℕ) (frame : Frame) (st : State) (undecided n r : ℕ) : Type 0 where
  pub within : Subset r undecided
  pub may : (a : ℕ) → has r a ≡ true → (a < frame.actions) × MayStop sets numbers frame st a true
  pub barred : (a : ℕ) → a < n → a < frame.actions → has undecided a ≡ true → has r a ≡ false
      → BarredBy sets numbers frame st a
