-- Cliques: facts whose adders never overlap, so that what adds them takes the sum of its minutes.
-- Assumes nothing.
use Rattle.std.specs.Prelude.{ℕ, ◌+◌, ◌≤◌, ◌<◌, ◌≡◌, true, false, ◌⊎◌, List, ◌++◌, length, get_or}
use Rattle.facts.specs.FactSet.{has, union, Subset}
use Rattle.job.specs.Job.{Job}
use Rattle.timeline.specs.Step.{Step}
use Rattle.timeline.specs.Timeline.{held}
use Rattle.timeline.specs.Places.{EachStep}
use Rattle.timeline.specs.Keeps.{PlanOf}
use Rattle.times.specs.Earliest.{action_of}
use Rattle.earliest.specs.Numbers.{set_number}
use Rattle.tables.specs.declared.Frame.{Frame}
use Rattle.tables.specs.Tables.{clashes, needs_at, adds_at, clashes_at, duration_at, pool_use_at}
use Rattle.landmarks.specs.Tables.{KeptBefore, PutBehind}

-- in no plan of the kept steps K and else steps that start at minute b or later does a set hold from b on
abbrev pub NeverHolds : Job → ℕ → List Step → ℕ → Type 0
NeverHolds J b K set =
    (T goal : ℕ) → b ≤ T → (N : List Step) → EachStep (λ x. b ≤ x.start) N → PlanOf J T goal (N ++ K)
    → (m : ℕ) → b ≤ m → Subset set (held J.start (N ++ K) m) → ⊥

-- Actions i and j are different and no such plan has both in one minute from b on: they clash, or use more of some pool
-- together than there is, or what they need never holds together.
pub record NeverOverlap (J : Job) (b : ℕ) (K : List Step) (i j : ℕ) : Type 0 where
  pub different : i ≡ j → ⊥
  pub why : (clashes J i j ≡ true)
      ⊎ (((pool : ℕ) × (pool < length J.pools)
      × (get_or J.pools pool 0 < get_or (action_of J i).pools pool 0 + get_or (action_of J j).pools pool 0))
      ⊎ NeverHolds J b K (union (action_of J i).needs (action_of J j).needs))

-- For each fact below n, facts whose adders never overlap its own, and minutes that each of its adders takes.
pub record Cliques (J : Job) (b : ℕ) (K : List Step) (n : ℕ) (apart least : ℕ → ℕ) : Type 0 where
  pub exclusive : (q p i j : ℕ) → q < n → has (apart q) p ≡ true → i < length J.actions → j < length J.actions
      → has (action_of J i).adds q ≡ true → has (action_of J j).adds p ≡ true → NeverOverlap J b K i j
  pub shortest : (q i : ℕ) → q < n → i < length J.actions → has (action_of J i).adds q ≡ true
      → least q ≤ (action_of J i).duration

-- Facts of a set are taken one by one, each one from those that are apart from all taken before; the last two are the
-- facts that may still be taken and the sum of the minutes of those taken.
pub data Taken (n : ℕ) (apart least : ℕ → ℕ) (set : ℕ) : ℕ → ℕ → Type 0 where
  none_taken : Taken n apart least set set 0
  one_more : {allowed minutes : ℕ} → Taken n apart least set allowed minutes → (q rest : ℕ) → q < n
      → has allowed q ≡ true → Subset rest allowed → Subset rest (apart q)
      → Taken n apart least set rest (least q + minutes)

-- ---- in the tables of a job

-- where the tables have the facts apart from fact q, and its minutes
abbrev pub apart_at : List ℕ → ℕ → ℕ
apart_at sets q = get_or sets (320 + q) 0

abbrev pub least_at : List ℕ → ℕ → ℕ
least_at numbers q = get_or numbers (1156 + q) 0

-- actions i and j use more of some pool together than there is
abbrev pub Exceeded : List ℕ → Frame → ℕ → ℕ → Type 0
Exceeded numbers frame i j =
    (pool : ℕ) × (pool < frame.pools)
    × (get_or frame.available pool 0 < pool_use_at numbers i pool + pool_use_at numbers j pool)

-- what they need is unreachable together: later than any finite time
abbrev pub Unreached : List ℕ → List ℕ → Frame → ℕ → ℕ → Type 0
Unreached sets times frame i j = 530400 < set_number times (union (needs_at sets i) (needs_at sets j)) frame.facts

-- NeverOverlap by the tables
pub record Exclude (sets numbers times : List ℕ) (frame : Frame) (i j : ℕ) : Type 0 where
  pub different : i ≡ j → ⊥
  pub why : (has (clashes_at sets i) j ≡ true) ⊎ (Exceeded numbers frame i j ⊎ Unreached sets times frame i j)

-- of the facts apart from q, none is added by an action that could overlap one of the first n actions that adds q
abbrev pub ApartTo : List ℕ → List ℕ → List ℕ → Frame → ℕ → Type 0
ApartTo sets numbers times frame n =
    (i q p j : ℕ) → i < n → q < 64 → has (adds_at sets i) q ≡ true → has (apart_at sets q) p ≡ true
    → j < frame.actions → has (adds_at sets j) p ≡ true → Exclude sets numbers times frame i j

-- a number of minutes for fact q that each of the first n actions that adds it takes
abbrev pub LeastTo : List ℕ → List ℕ → ℕ → ℕ → ℕ → Type 0
LeastTo sets numbers n q minutes =
    (i : ℕ) → i < n → has (adds_at sets i) q ≡ true → minutes ≤ duration_at numbers i

-- the tables have cliques
pub record CliquesAt (sets numbers times : List ℕ) (frame : Frame) : Type 0 where
  pub exclusive : ApartTo sets numbers times frame frame.actions
  pub shortest : (q : ℕ) → q < 64 → LeastTo sets numbers frame.actions q (least_at numbers q)

-- the minutes of some clique of a set
abbrev pub CliqueMinutes : List ℕ → List ℕ → ℕ → ℕ → Type 0
CliqueMinutes sets numbers set minutes =
    (rest : ℕ) × Taken 64 (apart_at sets) (least_at numbers) set rest minutes

-- ---- what inner functions promise

-- of the first n actions, those that add a fact outside the set never overlap action i
abbrev pub Outside : List ℕ → List ℕ → List ℕ → Frame → ℕ → ℕ → ℕ → Type 0
Outside sets numbers times frame i n set =
    (j p : ℕ) → j < n → has (adds_at sets j) p ≡ true → has set p ≡ false → Exclude sets numbers times frame i j

-- no fact of a set is apart any more from a fact, below n, of another set; and no facts are apart that were not
pub record Lessened (n from away : ℕ) (xs ys : List ℕ) : Type 0 where
  pub kept : KeptBefore 320 384 xs ys
  pub inside : (q : ℕ) → q < 64 → Subset (apart_at ys q) (apart_at xs q)
  pub gone : (q p : ℕ) → q < n → has from q ≡ true → has (apart_at ys q) p ≡ true → has away p ≡ false

-- the minutes of the first n facts are put
abbrev pub LeastPut : List ℕ → ℕ → ℕ → List ℕ → List ℕ → Type 0
LeastPut sets actions n = PutBehind 1156 1220 n (λ ys. LeastTo sets ys actions)

-- of the allowed facts, those that are apart from fact q, without q
pub record Remaining (sets : List ℕ) (allowed q rest : ℕ) : Type 0 where
  pub inside : Subset rest allowed
  pub apart : Subset rest (apart_at sets q)
  pub fewer : has allowed q ≡ true → rest < allowed
