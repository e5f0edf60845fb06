-- What the search promises of a state: the plan that it finds is accepted, and where it finds none there is none.
-- Assumes nothing.
use Rattle.std.specs.Prelude.{ℕ, ◌≤◌, ◌<◌, ◌≡◌, true, false, cond, List, [], ◌∷◌, ◌++◌, length, get_or, Option, Some, None}
use Rattle.facts.specs.FactSet.{foreign}
use Rattle.job.specs.Job.{Job}
use Rattle.timeline.specs.Step.{Step, steps_in}
use Rattle.timeline.specs.From.{From, IsNew, is_kept}
use Rattle.timeline.specs.Places.{EachStep, Permutation}
use Rattle.landmarks.specs.Bounds.{TimesBound}
use Rattle.tables.specs.Tables.{Describes, Known, kept_of, from_of, KeepsKept}
use Rattle.tables.specs.declared.Frame.{Frame}
use Rattle.leaf.specs.declared.Answer.{Answer}
use Rattle.leaf.specs.Answer.{FileOf, Found, bytes_in}
use Rattle.leaf.specs.Order.{in_order}
use Rattle.states.specs.declared.state.State.{State}
use Rattle.pruning.specs.Missing.{Marked}
use Rattle.states.specs.States.{Stands, Safe, DeadFor}

-- the steps of a plan before a place
abbrev pub steps_before : From → List Step → List Step
steps_before b [] = []
steps_before b (x ∷ P) = cond (is_kept b x) (x ∷ steps_before b P) (steps_before b P)

-- the plan counts: its steps before the frame's place are exactly the kept ones
abbrev pub CountsFor : Job → Frame → List ℕ → Type 0
CountsFor J frame bytes = steps_before (from_of frame) (steps_in J bytes) ≡ in_order J frame.kept

-- everything that is lent is of this job
pub record TaskOf (J : Job) (file sets numbers times : List ℕ) (frame : Frame) : Type 0 where
  pub in_file : FileOf J file frame.start frame.supplies
  pub described : Describes J sets numbers frame
  pub timely : TimesBound J frame.first (kept_of J frame) frame.origin times
  pub goal : foreign J.facts frame.goal ≡ false
  pub marked : Marked J sets numbers frame

-- all that is lent is safe to read, and the state is not before the first minute
pub record Ready (sets numbers times : List ℕ) (frame : Frame) (st : State) : Type 0 where
  pub safe : Safe sets numbers frame st
  pub time_count : length times ≡ 2080
  pub facts : frame.facts ≤ 64
  pub not_before : frame.first ≤ st.minute
  pub kept : KeepsKept frame st.steps
  pub minute : st.minute < 65536
  pub starts : (k : ℕ) → k < st.steps.count → get_or st.steps.starts k 0 < 65536
  pub kept_known : Known frame.actions frame.kept
  pub origin : frame.origin ≤ frame.first

-- the plan found is accepted, and has the kept steps and else new ones
pub record FoundFor (J : Job) (frame : Frame) (r : Answer) : Type 0 where
  pub plan : Found J frame.goal frame.horizon r
  pub new : List Step
  pub same : Permutation (steps_in J (bytes_in r)) (new ++ kept_of J frame)
  pub after : EachStep (IsNew (from_of frame)) new

-- for every job in the file that has the frame's number of actions
abbrev pub FoundIn : List ℕ → Frame → Answer → Type 0
FoundIn file frame r =
    (J : Job) → FileOf J file frame.start frame.supplies → length J.actions ≡ frame.actions → FoundFor J frame r

-- the answer of a search: a plan found is accepted and has the kept steps; none found makes a dead end
pub record Answered (file : List ℕ) (frame : Frame) (Dead : Type 0) (r : Option Answer) : Type 0 where
  pub found : (a : Answer) → r ≡ Some a → FoundIn file frame a
  pub dead : r ≡ None → Dead

-- for every job of the task at which the state stands: none of the steps that are X completes these steps
abbrev pub NoneFrom : List ℕ → List ℕ → List ℕ → List ℕ → Frame → State → (Step → Type 0) → (Job → List Step) → Type 0
NoneFrom file sets numbers times frame st X steps =
    (J : Job) → TaskOf J file sets numbers times frame → Stands J frame st → DeadFor J frame X (steps J)
