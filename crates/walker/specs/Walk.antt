-- What the walk over the list promises of the listed plans that begin with some steps.
-- Assumes nothing.
use Rattle.std.specs.Prelude.{Option, Some, None}
use Rattle.std.specs.Prelude.{ℕ, ◌+◌, ◌-◌, ◌/◌, ◌%◌, ◌≤◌, ◌<◌, ◌≡◌, Bool, true, false, ◌⊎◌, List, [], ◌∷◌, ◌++◌, length, get_or, set}
use Rattle.facts.specs.FactSet.{has, subset, foreign}
use Rattle.job.specs.Job.{Job}
use Rattle.job.specs.Passed.{Passed}
use Rattle.timeline.specs.Step.{Step, step_of, steps_in, plan_bytes, strictly_rising}
use Rattle.timeline.specs.Timeline.{if_stops, deleted_at, held}
use Rattle.timeline.specs.Keeps.{PlanOf}
use Rattle.tables.specs.declared.Frame.{Frame}
use Rattle.tables.specs.declared.Steps.{Steps}
use Rattle.tables.specs.Tables.{DescribesAction, DescribesEach, Describes, Known, chosen, needs_at, adds_at, duration_at}
use Rattle.tails.specs.Tails.{TailTable}
use Rattle.leaf.specs.declared.Answer.{Answer}
use Rattle.leaf.specs.Answer.{FileOf, Found, bytes_in}
use Rattle.leaf.specs.Order.{in_order}
use Rattle.search.specs.Search.{TaskOf}
use Rattle.listing.specs.Listed.{Listed}
use Rattle.listing.specs.Shortest.{ShortestEnd}
use Rattle.listing.specs.Place.{ListOf}
use Rattle.listing.specs.Begins.{Begins, place_of, FoundAt}
use Rattle.walker.specs.declared.walk.Walk.{Walk}

-- ---- the facts that hold where the walk stands

-- what a step of action i deletes, if it stops at minute t
abbrev pub LostOf : List ℕ → List ℕ → ℕ → ℕ → ℕ → ℕ → Type 0
LostOf sets numbers i start t r =
    (J : Job) → DescribesAction J sets numbers i
    → r ≡ if_stops t (step_of J i start).action.deletes (step_of J i start)

-- what the steps delete that stop at minute t
abbrev pub Lost : List ℕ → List ℕ → ℕ → Steps → ℕ → ℕ → Type 0
Lost sets numbers actions steps t r =
    (J : Job) → DescribesEach J sets numbers actions → r ≡ deleted_at t (chosen J steps)

-- these facts hold at the minute, by the steps
abbrev pub HeldAt : Job → Steps → ℕ → ℕ → Type 0
HeldAt J steps minute facts = facts ≡ held J.start (chosen J steps) minute

-- from what holds at the minute of the place before to what holds at the place's minute
abbrev pub Forward : List ℕ → List ℕ → ℕ → Steps → ℕ → ℕ → ℕ → Type 0
Forward sets numbers actions steps place before r =
    (J : Job) → DescribesEach J sets numbers actions → HeldAt J steps ((place - 1) / 64) before
    → HeldAt J steps (place / 64) r

-- ---- frames

-- the frame without a goal
abbrev pub for_rules : Frame → Frame
for_rules frame =
    record {
      facts = frame.facts;
      actions = frame.actions;
      pools = frame.pools;
      stores = frame.stores;
      available = frame.available;
      supplies = frame.supplies;
      stocks = frame.stocks;
      handovers = frame.handovers;
      start = frame.start;
      goal = 0;
      first = frame.first;
      least = frame.least;
      horizon = frame.horizon;
      kept = frame.kept;
      origin = frame.origin;
      given = frame.given;
    }

-- the frame for plans that begin with the steps: new ones stand behind the step of this start and number
abbrev pub behind : Frame → Steps → ℕ → ℕ → ℕ → Frame
behind frame steps given start number =
    record {
      facts = frame.facts;
      actions = frame.actions;
      pools = frame.pools;
      stores = frame.stores;
      available = frame.available;
      supplies = frame.supplies;
      stocks = frame.stocks;
      handovers = frame.handovers;
      start = frame.start;
      goal = frame.goal;
      first = start;
      least = number + 1;
      horizon = frame.horizon;
      kept = steps;
      origin = frame.origin;
      given = given;
    }

-- a frame of a whole day: no step is kept, and the times count from minute 0
pub record WholeDay (frame : Frame) : Type 0 where
  pub first : frame.first ≡ 0
  pub none : frame.kept.count ≡ 0
  pub origin : frame.origin ≡ 0
  pub given : frame.given ≡ 0

-- the job of the file is asked for the frame's goal, and the horizon is the least end
pub record AskedOf (J : Job) (file : List ℕ) (frame : Frame) : Type 0 where
  pub in_file : FileOf J file frame.start frame.supplies
  pub actions : length J.actions ≡ frame.actions
  pub goal : foreign J.facts frame.goal ≡ false
  pub in_time : frame.horizon ≤ J.deadline
  pub passed : Passed J
  pub shortest : ShortestEnd J frame.goal frame.horizon

-- and the tables are of its whole day
pub record DayOf (J : Job) (file sets numbers times : List ℕ) (frame : Frame) : Type 0 where
  pub asked : AskedOf J file frame
  pub task : TaskOf J file sets numbers times frame
  pub whole : WholeDay frame

-- ---- the steps that a plan begins with

-- known steps, with starts of 16 bits
pub record Kept (frame : Frame) (steps : Steps) : Type 0 where
  pub known : Known frame.actions steps
  pub starts : (k : ℕ) → k < steps.count → get_or steps.starts k 0 < 65536

abbrev pub Rising : Job → Steps → Type 0
Rising J steps = strictly_rising (in_order J steps) ≡ true

-- the last of them is of this number and start
abbrev pub EndsWith : Job → Steps → ℕ → ℕ → Type 0
EndsWith J steps number start =
    (first : List Step) × (in_order J steps ≡ first ++ (step_of J number start ∷ []))

-- the place stands right behind the last of them; before all, where there are none
abbrev pub RightBehind : Job → Steps → ℕ → Type 0
RightBehind J steps place =
    ((in_order J steps ≡ []) × (place ≡ 0))
    ⊎ ((first : List Step) × (x : Step) × (in_order J steps ≡ first ++ (x ∷ [])) × (place_of x + 1 ≡ place))

-- no listed plan begins with the steps
abbrev pub NoneBegins : Job → Frame → Steps → Type 0
NoneBegins J frame steps = (P : List Step) → Listed J frame.goal P → Begins (in_order J steps) P → ⊥

-- ---- what is asked of steps

-- whatever the action adds that does not hold is of no use by the horizon
abbrev pub NoUse : List ℕ → List ℕ → List ℕ → ℕ → ℕ → ℕ → ℕ → Type 0
NoUse sets numbers tails horizon facts a start =
    (p : ℕ) → has (adds_at sets a) p ≡ true → has facts p ≡ false
    → horizon < start + duration_at numbers a + get_or tails p 0

-- the action is the job's, what it needs holds, and something that it adds does not and can be of use
pub record NeedsAllow (sets numbers tails : List ℕ) (actions horizon facts a start : ℕ) (r : Bool) : Type 0 where
  pub known : r ≡ true → a < actions
  pub none : r ≡ false
      → (actions ≤ a) ⊎ ((subset (needs_at sets a) facts ≡ false) ⊎ NoUse sets numbers tails horizon facts a start)

-- steps that break the rules begin no listed plan
abbrev pub RulesAllow : List ℕ → Frame → Steps → Bool → Type 0
RulesAllow file frame steps r =
    r ≡ false → (J : Job) → AskedOf J file frame → Kept frame steps → NoneBegins J frame steps

-- nor do steps of which one is spare, or that break the rules
abbrev pub StepsAllow : List ℕ → List ℕ → List ℕ → List ℕ → Frame → Steps → Bool → Type 0
StepsAllow file sets numbers tails frame steps r =
    r ≡ false → (J : Job) → AskedOf J file frame → Describes J sets numbers frame
    → TailTable sets numbers frame.actions frame.goal tails → Kept frame steps → NoneBegins J frame steps

-- nor do steps with which no accepted plan begins
abbrev pub SearchAllows : List ℕ → List ℕ → List ℕ → List ℕ → Frame → Steps → ℕ → ℕ → Bool → Type 0
SearchAllows file sets numbers times frame steps start number r =
    r ≡ false → (J : Job) → DayOf J file sets numbers times frame → Rising J steps → EndsWith J steps number start
    → NoneBegins J frame steps

-- ---- whether the steps themselves are listed

-- the steps without step i, the last one in its place
abbrev pub without : Steps → ℕ → Steps
without steps i =
    record {
      count = steps.count - 1;
      numbers = set steps.numbers i (get_or steps.numbers (steps.count - 1) 0);
      starts = set steps.starts i (get_or steps.starts (steps.count - 1) 0);
    }

-- the steps without step i are a plan
abbrev pub PlanWithout : Job → Frame → Steps → ℕ → Type 0
PlanWithout J frame steps i = PlanOf J frame.horizon frame.goal (chosen J (without steps i))

pub record NoneDropped (file : List ℕ) (frame : Frame) (steps : Steps) (r : Bool) : Type 0 where
  pub none : r ≡ true → (J : Job) → AskedOf J file frame → Kept frame steps → (i : ℕ) → i < steps.count
      → PlanWithout J frame steps i → ⊥
  pub some : r ≡ false → (J : Job) → AskedOf J file frame → Kept frame steps
      → (i : ℕ) × (i < steps.count) × PlanWithout J frame steps i

-- the answer tells of the plan P
pub record Tells (J : Job) (goal T : ℕ) (answer : Answer) (P : List Step) : Type 0 where
  pub found : Found J goal T answer
  pub steps : steps_in J (bytes_in answer) ≡ P
  pub bytes : bytes_in answer ≡ plan_bytes P

-- the answer tells of the steps, and they are listed; or they are not
pub record ListedTest (file : List ℕ) (frame : Frame) (steps : Steps) (r : Option Answer) : Type 0 where
  pub found : (a : Answer) → r ≡ Some a → (J : Job) → AskedOf J file frame → Kept frame steps → Rising J steps
      → Listed J frame.goal (in_order J steps) × Tells J frame.goal frame.horizon a (in_order J steps)
  pub none : r ≡ None → (J : Job) → AskedOf J file frame → Kept frame steps → Rising J steps
      → Listed J frame.goal (in_order J steps) → ⊥

-- ---- the walk

-- among the listed plans that are F: the plan before which so many stand; or they are fewer, by what is left
pub record Walked (J : Job) (goal T : ℕ) (F : List Step → Type 0) (left : ℕ) (r : Walk) : Type 0 where
  pub found : (a : Answer) → r.answer ≡ Some a
      → (P : List Step) × FoundAt J goal F left P × Tells J goal T a P
  pub none : r.answer ≡ None
      → (A : List (List Step)) × ListOf J goal F A × (length A + r.left ≡ left)

-- no plan was met
abbrev pub none_left : ℕ → Walk
none_left left = record { left = left; answer = None }

-- the steps themselves
abbrev pub Visits : List ℕ → Frame → Steps → ℕ → Walk → Type 0
Visits file frame steps left r =
    (J : Job) → AskedOf J file frame → Kept frame steps → Rising J steps
    → Walked J frame.goal frame.horizon (λ P. P ≡ in_order J steps) left r

-- the listed plans that begin with the steps and then that of the place
abbrev pub Attempts : List ℕ → List ℕ → List ℕ → List ℕ → Frame → Steps → ℕ → ℕ → ℕ → Walk → Type 0
Attempts file sets numbers times frame steps facts place left r =
    (J : Job) → DayOf J file sets numbers times frame → Rising J steps
    → (from : ℕ) → RightBehind J steps from → from ≤ place → HeldAt J steps (place / 64) facts
    → Walked J frame.goal frame.horizon
    (Begins (in_order J steps ++ (step_of J (place % 64) (place / 64) ∷ []))) left r

-- the listed plans that begin with the steps
abbrev pub Walks : List ℕ → List ℕ → List ℕ → List ℕ → Frame → Steps → ℕ → ℕ → ℕ → Walk → Type 0
Walks file sets numbers times frame steps facts from left r =
    (J : Job) → DayOf J file sets numbers times frame → Rising J steps → RightBehind J steps from
    → HeldAt J steps ((from - 1) / 64) facts
    → Walked J frame.goal frame.horizon (Begins (in_order J steps)) left r
