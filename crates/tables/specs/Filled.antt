-- The tables of a job value: what filling them leaves, and the frame beside them.
-- Assumes nothing.
use Rattle.std.specs.Prelude.{ℕ, ◌+◌, ◌≤◌, ◌<◌, ◌≡◌, Bool, ◌||◌, List, eqb, length, get_or}
use Rattle.facts.specs.FactSet.{has}
use Rattle.job.specs.declared.Action as value
use Rattle.job.specs.declared.Counts.{Counts}
use Rattle.job.specs.declared.Job as held
use Rattle.job.specs.Job.{Job, action_in, job_in}
use Rattle.job.specs.Resources.{store_amount, allowed_in, HandoversOf}
use Rattle.timeline.specs.Timeline.{hinders}
use Rattle.times.specs.Earliest.{action_of}
use Rattle.tables.specs.declared.Frame.{Frame}
use Rattle.tables.specs.declared.Steps.{Steps}
use Rattle.tables.specs.Tables.{clashes, needs_at, adds_at, deletes_at, clashes_at, duration_at, pool_use_at, store_use_at}

-- the four sets of action i are in the table
pub record SetsFilled (J : Job) (sets : List ℕ) (i : ℕ) : Type 0 where
  pub needs : needs_at sets i ≡ (action_of J i).needs
  pub adds : adds_at sets i ≡ (action_of J i).adds
  pub deletes : deletes_at sets i ≡ (action_of J i).deletes
  pub clash : (j : ℕ) → j < length J.actions → has (clashes_at sets i) j ≡ clashes J i j

-- four numbers cut to 32 bits
abbrev pub CutTo : List ℕ → List ℕ → Type 0
CutTo xs ys = (k : ℕ) → k < 4 → get_or xs k 0 < 4294967296 → get_or ys k 0 ≡ get_or xs k 0

-- the nine numbers of action i are in the table; its duration is one byte, and what it uses up of a store has 32 bits
pub record NumbersFilled (J : Job) (numbers : List ℕ) (i : ℕ) : Type 0 where
  pub duration : duration_at numbers i ≡ (action_of J i).duration
  pub byte : (action_of J i).duration ≤ 255
  pub pools : (pool : ℕ) → pool < length J.pools → pool_use_at numbers i pool ≡ get_or (action_of J i).pools pool 0
  pub stores : (store : ℕ) → store < length J.stores → store_amount J store (action_of J i) < 4294967296
      → store_use_at numbers i store ≡ store_amount J store (action_of J i)

-- each action of the job value is in the table
abbrev pub EachFilled : (Job → List ℕ → ℕ → Type 0) → held.Job → List ℕ → Type 0
EachFilled Put job xs = (i : ℕ) → i < job.counts.actions → Put (job_in job) xs i

-- all actions of the job value are in both tables
pub record Filled (job : held.Job) (sets numbers : List ℕ) : Type 0 where
  pub set_count : length sets ≡ 384
  pub number_count : length numbers ≡ 1220
  pub each_sets : EachFilled SetsFilled job sets
  pub each_numbers : EachFilled NumbersFilled job numbers

-- what of the job value is no table, for a search up to the deadline with tables of what is left of the day from the
-- first free minute on
abbrev pub frame_of : held.Job → ℕ → ℕ → Steps → List ℕ → Frame
frame_of job goal first kept handovers =
    record {
      facts = job.facts;
      actions = job.counts.actions;
      pools = job.counts.pools;
      stores = job.counts.stores;
      available = job.pools;
      supplies = job.stores;
      stocks = allowed_in job;
      handovers = handovers;
      start = job.start;
      goal = goal;
      first = first;
      least = 0;
      horizon = job.deadline;
      kept = kept;
      origin = first;
      given = 0;
    }

-- the frame of the job value, with the handovers of its pools
pub record FramedAs (job : held.Job) (goal first : ℕ) (kept : Steps) (frame : Frame) : Type 0 where
  pub handovers : HandoversOf (job_in job) frame.handovers
  pub same : frame ≡ frame_of job goal first kept frame.handovers

-- ---- what inner functions promise

-- r is whether actions i and j clash, whose values are a and b
abbrev pub Clash : ℕ → ℕ → value.Action → value.Action → Bool → Type 0
Clash i j a b r =
    (n : Counts)
    → r ≡ (eqb i j || (hinders (action_in n a) (action_in n b) || hinders (action_in n b) (action_in n a)))

-- the set has those of the actions below n that clash with action i
abbrev pub ClashSet : Job → ℕ → ℕ → ℕ → Type 0
ClashSet J i n set = (j : ℕ) → j < n → has set j ≡ clashes J i j

-- the entries before a place are as they were
abbrev pub SameBefore : ℕ → List ℕ → List ℕ → Type 0
SameBefore at xs ys = (k : ℕ) → k < at → get_or ys k 0 ≡ get_or xs k 0

-- from place `at` on ys has the first n of the values, and before it the entries of xs
pub record ValuesPut (xs : List ℕ) (at n : ℕ) (values ys : List ℕ) : Type 0 where
  pub size : length ys ≡ length xs
  pub put : (k : ℕ) → k < n → get_or ys (at + k) 0 ≡ get_or values k 0
  pub before : SameBefore at xs ys
