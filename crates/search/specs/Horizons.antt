-- What the search promises for one horizon, and for the least.
-- Assumes nothing.
use Rattle.std.specs.Prelude.{ℕ, ◌+◌, ◌≤◌, ◌<◌, ◌≡◌, List, length, get_or, Option, Some, None}
use Rattle.job.specs.Job.{Job}
use Rattle.job.specs.Passed.{Passed}
use Rattle.timeline.specs.Step.{steps_in}
use Rattle.timeline.specs.Timeline.{end}
use Rattle.timeline.specs.Accepted.{Accepted}
use Rattle.tables.specs.Tables.{Lent, Known}
use Rattle.tables.specs.declared.Frame.{Frame}
use Rattle.leaf.specs.declared.Answer.{Answer}
use Rattle.search.specs.declared.horizons.Rise.{Rise}
use Rattle.search.specs.Search.{TaskOf, CountsFor, FoundFor, FoundIn}

-- the frame for another horizon
abbrev pub until : Frame → ℕ → Frame
until frame T =
    record {
      facts = frame.facts;
      actions = frame.actions;
      pools = frame.pools;
      stores = frame.stores;
      available = frame.available;
      supplies = frame.supplies;
      stocks = frame.stocks;
      handovers = frame.handovers;
      start = frame.start;
      goal = frame.goal;
      first = frame.first;
      least = frame.least;
      horizon = T;
      kept = frame.kept;
      origin = frame.origin;
      given = frame.given;
    }

-- all that is lent is safe to read, and the kept steps are known
pub record Whole (sets numbers times : List ℕ) (frame : Frame) : Type 0 where
  pub lent : Lent sets numbers frame.actions
  pub time_count : length times ≡ 2080
  pub facts : frame.facts ≤ 64
  pub pools : frame.pools ≤ 4
  pub stores : frame.stores ≤ 4
  pub horizon : frame.horizon ≤ 1440
  pub kept : Known frame.actions frame.kept
  pub starts : (k : ℕ) → k < frame.kept.count → get_or frame.kept.starts k 0 < 65536
  pub origin : frame.origin ≤ frame.first

-- no accepted plan that counts ends before minute low
abbrev pub NoneBefore : Job → Frame → ℕ → Type 0
NoneBefore J frame low =
    (bytes : List ℕ) → Accepted J frame.goal bytes → CountsFor J frame bytes → low ≤ end (steps_in J bytes)

-- no accepted plan that counts ends by the frame's horizon
abbrev pub NoneBy : Job → Frame → Type 0
NoneBy J frame =
    (bytes : List ℕ) → Accepted J frame.goal bytes → CountsFor J frame bytes → frame.horizon < end (steps_in J bytes)

-- the answer of the search for one horizon: a plan that ends by then, or there is none
pub record Solves (file sets numbers times : List ℕ) (frame : Frame) (r : Option Answer) : Type 0 where
  pub found : (a : Answer) → r ≡ Some a → FoundIn file frame a
  pub none : r ≡ None → (J : Job) → TaskOf J file sets numbers times frame → Passed J → NoneBy J frame

-- the answer of the search for the least horizon: a shortest plan, or there is none
pub record Shortest (file sets numbers times : List ℕ) (frame : Frame) (r : Option Answer) : Type 0 where
  pub found : (a : Answer) → r ≡ Some a → (J : Job) → TaskOf J file sets numbers times frame → Passed J
      → FoundFor J frame a × NoneBefore J frame a.end
  pub none : r ≡ None → (J : Job) → TaskOf J file sets numbers times frame → Passed J → NoneBy J frame

-- ---- from horizon to horizon

-- a plan that no other ends before, or none by the horizon, if no plan ends before the minute `from`
pub record ShortestFrom (file sets numbers times : List ℕ) (frame : Frame) (from : ℕ) (r : Option Answer) : Type 0 where
  pub found : (a : Answer) → r ≡ Some a → (J : Job) → TaskOf J file sets numbers times frame → Passed J
      → NoneBefore J frame from → FoundFor J frame a × NoneBefore J frame a.end
  pub none : r ≡ None → (J : Job) → TaskOf J file sets numbers times frame → Passed J → NoneBy J frame

-- no plan ends before the lower bound, if none ended before the one at the beginning
abbrev pub Raised : List ℕ → List ℕ → List ℕ → List ℕ → Frame → ℕ → ℕ → Type 0
Raised file sets numbers times frame from low =
    (J : Job) → TaskOf J file sets numbers times frame → Passed J → NoneBefore J frame from
    → NoneBefore J frame low

-- a plan found is accepted and ends by the frame's horizon
abbrev pub FoundBy : List ℕ → List ℕ → List ℕ → List ℕ → Frame → Answer → Type 0
FoundBy file sets numbers times frame r =
    (J : Job) → TaskOf J file sets numbers times frame → Passed J → FoundFor J frame r

-- from the lower bound upwards: a plan and a new lower bound, or no plan by the horizon
pub record Rises (file sets numbers times : List ℕ) (frame : Frame) (from : ℕ) (r : Option Rise) : Type 0 where
  pub found : (x : Rise) → r ≡ Some x → FoundBy file sets numbers times frame x.answer
  pub raised : (x : Rise) → r ≡ Some x → Raised file sets numbers times frame from x.low
  pub none : r ≡ None → (J : Job) → TaskOf J file sets numbers times frame → Passed J → NoneBy J frame

-- between the bounds: the lower one rises, or the plan ends earlier
pub record Narrows (file sets numbers times : List ℕ) (frame : Frame) (from : ℕ) (best : Answer) (r : Rise)
    : Type 0 where
  pub found : FoundBy file sets numbers times frame best → FoundBy file sets numbers times frame r.answer
  pub raised : Raised file sets numbers times frame from r.low
  pub closer : (r.answer.end + from < best.end + r.low) × (r.answer.end ≤ best.end) × (from ≤ r.low)

-- the plan that is left at the end
pub record Descends (file sets numbers times : List ℕ) (frame : Frame) (from : ℕ) (best r : Answer) : Type 0 where
  pub found : FoundBy file sets numbers times frame best → FoundBy file sets numbers times frame r
  pub raised : Raised file sets numbers times frame from r.end
