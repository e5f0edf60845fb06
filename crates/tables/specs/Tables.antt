-- A job in tables: four sets and nine numbers for each action, with room behind them for sets and numbers of the facts.
-- Assumes nothing.
use Rattle.std.specs.Prelude.{ℕ, zero, suc, ◌+◌, ◌*◌, ◌≤◌, ◌<◌, ◌≡◌, Bool, ◌||◌, List, [], ◌∷◌, eqb, length, get_or, set, replicate}
use Rattle.facts.specs.FactSet.{has}
use Rattle.job.specs.Job.{Job}
use Rattle.job.specs.Resources.{store_amount, store_cap, HandoversOf}
use Rattle.timeline.specs.Step.{Step, step_of}
use Rattle.timeline.specs.From.{From, IsNew}
use Rattle.timeline.specs.Timeline.{hinders}
use Rattle.times.specs.Earliest.{action_of}
use Rattle.tables.specs.declared.Frame.{Frame}
use Rattle.tables.specs.declared.Steps.{Steps}

-- actions i and j clash: an action clashes with itself, always
abbrev pub clashes : Job → ℕ → ℕ → Bool
clashes J i j = eqb i j || (hinders (action_of J i) (action_of J j) || hinders (action_of J j) (action_of J i))

-- where the tables have the sets and numbers of action i
abbrev pub needs_at : List ℕ → ℕ → ℕ
needs_at sets i = get_or sets (i * 4) 0

abbrev pub adds_at : List ℕ → ℕ → ℕ
adds_at sets i = get_or sets (i * 4 + 1) 0

abbrev pub deletes_at : List ℕ → ℕ → ℕ
deletes_at sets i = get_or sets (i * 4 + 2) 0

-- the actions that clash with action i, as a set of their numbers
abbrev pub clashes_at : List ℕ → ℕ → ℕ
clashes_at sets i = get_or sets (i * 4 + 3) 0

abbrev pub duration_at : List ℕ → ℕ → ℕ
duration_at numbers i = get_or numbers (i * 9) 0

abbrev pub pool_use_at : List ℕ → ℕ → ℕ → ℕ
pool_use_at numbers i pool = get_or numbers (i * 9 + 1 + pool) 0

abbrev pub store_use_at : List ℕ → ℕ → ℕ → ℕ
store_use_at numbers i store = get_or numbers (i * 9 + 5 + store) 0

-- the tables describe action i of the job
pub record DescribesAction (J : Job) (sets numbers : List ℕ) (i : ℕ) : Type 0 where
  pub needs : needs_at sets i ≡ (action_of J i).needs
  pub adds : adds_at sets i ≡ (action_of J i).adds
  pub deletes : deletes_at sets i ≡ (action_of J i).deletes
  pub clash : (j : ℕ) → j < length J.actions → has (clashes_at sets i) j ≡ clashes J i j
  pub duration : duration_at numbers i ≡ (action_of J i).duration
  pub positive : 0 < (action_of J i).duration
  pub byte : (action_of J i).duration ≤ 255
  pub pools : (pool : ℕ) → pool < length J.pools → pool_use_at numbers i pool ≡ get_or (action_of J i).pools pool 0
  pub stores : (store : ℕ) → store < length J.stores
      → store_use_at numbers i store ≡ store_amount J store (action_of J i)

-- the tables describe each action of the job
abbrev pub DescribesEach : Job → List ℕ → List ℕ → ℕ → Type 0
DescribesEach J sets numbers actions = (i : ℕ) → i < actions → DescribesAction J sets numbers i

-- the tables and the frame describe the job
pub record Describes (J : Job) (sets numbers : List ℕ) (frame : Frame) : Type 0 where
  pub facts : J.facts ≡ frame.facts
  pub actions : length J.actions ≡ frame.actions
  pub pools : length J.pools ≡ frame.pools
  pub stores : length J.stores ≡ frame.stores
  pub available : (pool : ℕ) → pool < frame.pools → get_or frame.available pool 0 ≡ get_or J.pools pool 0
  pub stocks : (store : ℕ) → store < frame.stores → get_or frame.stocks store 0 ≡ store_cap J store
  pub handovers : HandoversOf J frame.handovers
  pub in_time : frame.horizon ≤ J.deadline
  pub each : DescribesEach J sets numbers frame.actions

-- a table of numbers that is long enough, with durations of one byte
pub record Numbers (numbers : List ℕ) (actions : ℕ) : Type 0 where
  pub number_count : length numbers ≡ 1220
  pub few : actions ≤ 64
  pub short : (i : ℕ) → i < actions → duration_at numbers i ≤ 255

-- and a table of sets
pub record Lent (sets numbers : List ℕ) (actions : ℕ) : Type 0 where
  pub set_count : length sets ≡ 384
  pub amounts : Numbers numbers actions

-- ---- the chosen steps

-- the first n of them as steps of the job, the last chosen first
abbrev pub chosen_to : Job → Steps → ℕ → List Step
chosen_to J steps zero = []
chosen_to J steps (suc n) = step_of J (get_or steps.numbers n 0) (get_or steps.starts n 0) ∷ chosen_to J steps n

abbrev pub chosen : Job → Steps → List Step
chosen J steps = chosen_to J steps steps.count

-- they are at most 32, of so many actions
pub record Known (actions : ℕ) (steps : Steps) : Type 0 where
  pub few : steps.count ≤ 32
  pub numbers : length steps.numbers ≡ 32
  pub starts : length steps.starts ≡ 32
  pub known : (k : ℕ) → k < steps.count → get_or steps.numbers k 0 < actions

abbrev pub no_steps : Steps
no_steps = record { count = 0; numbers = replicate 32 0; starts = replicate 32 0 }

-- one more step
abbrev pub pushed : Steps → ℕ → ℕ → Steps
pushed steps number start =
    record {
      count = steps.count + 1;
      numbers = set steps.numbers steps.count number;
      starts = set steps.starts steps.count start;
    }

-- ---- the kept steps

abbrev pub kept_of : Job → Frame → List Step
kept_of J frame = chosen J frame.kept

-- where new steps begin
abbrev pub from_of : Frame → From
from_of frame = record { minute = frame.first; number = frame.least }

-- the frame's kept steps stand first, and the others are new
pub record KeepsKept (frame : Frame) (steps : Steps) : Type 0 where
  pub count : frame.kept.count ≤ steps.count
  pub numbers : (k : ℕ) → k < frame.kept.count → get_or steps.numbers k 0 ≡ get_or frame.kept.numbers k 0
  pub starts : (k : ℕ) → k < frame.kept.count → get_or steps.starts k 0 ≡ get_or frame.kept.starts k 0
  pub new : (J : Job) (k : ℕ) → frame.kept.count ≤ k → k < steps.count
      → IsNew (from_of frame) (step_of J (get_or steps.numbers k 0) (get_or steps.starts k 0))
