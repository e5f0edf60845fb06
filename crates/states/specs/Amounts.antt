-- What the chosen steps use of pools and stores.
-- Assumes nothing.
use Rattle.std.specs.Prelude.{ℕ, suc, ◌+◌, ◌*◌, ◌^◌, ◌≤◌, ◌<◌, ◌≡◌, Bool, cond, List, [], ◌∷◌, length, get_or}
use Rattle.lists.specs.Lists.{any_below}
use Rattle.job.specs.Resources.{handover, store_amount, store_cap, HandoversOf}
use Rattle.job.specs.Job.{Job}
use Rattle.job.specs.Valid.{over}
use Rattle.timeline.specs.Step.{Step, step_of}
use Rattle.timeline.specs.Timeline.{in_use, used_up}
use Rattle.times.specs.Earliest.{action_of}
use Rattle.tables.specs.Tables.{DescribesAction, chosen, DescribesEach}
use Rattle.tables.specs.declared.Frame.{Frame}
use Rattle.tables.specs.declared.Steps.{Steps}
use Rattle.states.specs.declared.amounts.Uses.{Uses}

-- the sums are what the steps L use of each pool in the minute, put off by the pool's handover
abbrev pub HoldsUse : Job → ℕ → List Step → List ℕ → Type 0
HoldsUse J minute L sums =
    (pool : ℕ) → pool < 4 → pool < length J.pools → get_or sums pool 0 ≡ in_use J pool (minute + handover J pool) L

-- The value holds what the steps L use: of each pool in the minute before t and in minute t, put off by its handover,
-- of each store over all. A step that stops at t has its shares in that minute before for the last time.
pub record UsesOf (J : Job) (t : ℕ) (L : List Step) (uses : Uses) : Type 0 where
  pub before : (m : ℕ) → suc m ≡ t → HoldsUse J m L uses.before
  pub now : HoldsUse J t L uses.now
  pub spent : (store : ℕ) → store < 4 → store < length J.stores → get_or uses.spent store 0 ≡ used_up J store L

-- ---- sums that stay small

-- four sums of n amounts of 32 bits
pub record Sums (n : ℕ) (sums : List ℕ) : Type 0 where
  pub four : length sums ≡ 4
  pub small : (k : ℕ) → k < 4 → get_or sums k 0 ≤ n * 2 ^ 32

-- all that n steps use
pub record Small (n : ℕ) (uses : Uses) : Type 0 where
  pub before : Sums n uses.before
  pub now : Sums n uses.now
  pub spent : Sums n uses.spent

-- the sums r are those before with the table's amounts from place `at` on, if they count
pub record Added (numbers : List ℕ) (at : ℕ) (counts : ℕ → Bool) (sums r : List ℕ) : Type 0 where
  pub each : (k : ℕ) → k < 4 → get_or r k 0 ≡ cond (counts k) (get_or numbers (at + k) 0) 0 + get_or sums k 0
  pub more : (n : ℕ) → Sums n sums → Sums (n + 1) r

-- ---- no steps, one step more, and all chosen steps
pub record UsesNothing (r : Uses) : Type 0 where
  pub small : Small 0 r
  pub nothing : (J : Job) (t : ℕ) → UsesOf J t [] r

pub record JoinsUses (numbers handovers : List ℕ) (t i start : ℕ) (uses r : Uses) : Type 0 where
  pub more : (n : ℕ) → Small n uses → Small (n + 1) r
  pub joins : (J : Job) (sets : List ℕ) → DescribesAction J sets numbers i → HandoversOf J handovers → (L : List Step)
      → UsesOf J t L uses → UsesOf J t (step_of J i start ∷ L) r

pub record LooksUses (numbers handovers : List ℕ) (actions : ℕ) (steps : Steps) (t : ℕ) (r : Uses) : Type 0 where
  pub small : Small steps.count r
  pub looks : (J : Job) (sets : List ℕ) → DescribesEach J sets numbers actions → HandoversOf J handovers
      → UsesOf J t (chosen J steps) r

-- ---- too much

-- one of the first limits is below the sum and the table's amount from place `at` on
abbrev pub exceeds : List ℕ → ℕ → List ℕ → List ℕ → ℕ → Bool
exceeds numbers at sums limits count =
    any_below count (λ k. over (get_or limits k 0) (get_or sums k 0 + get_or numbers (at + k) 0))

-- the steps and action i use more of some pool in the minute, put off by the pool's handover, than there is
abbrev pub exceeds_pools : Job → List Step → ℕ → ℕ → Bool
exceeds_pools J L i minute =
    any_below (length J.pools)
    (λ pool.
    over (get_or J.pools pool 0) (in_use J pool (minute + handover J pool) L + get_or (action_of J i).pools pool 0))

-- of some pool whose handover after minute `until` is later than the minute, the sums and action i use more than there
-- is
pub record ExceededUntil (numbers : List ℕ) (frame : Frame) (i : ℕ) (sums : List ℕ) (until minute : ℕ) : Type 0 where
  pub pool : ℕ
  pub inside : pool < frame.pools
  pub shared : minute < until + get_or frame.handovers pool 0
  pub over : get_or frame.available pool 0 < get_or sums pool 0 + get_or numbers (i * 9 + 1 + pool) 0

-- the steps and action i use up more of some store than there is
abbrev pub exceeds_stores : Job → List Step → ℕ → Bool
exceeds_stores J L i =
    any_below (length J.stores)
    (λ store. over (store_cap J store) (used_up J store L + store_amount J store (action_of J i)))
