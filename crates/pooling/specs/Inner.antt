-- What inner functions ask and promise.
-- Assumes nothing.
use Rattle.std.specs.Prelude.{ℕ, ◌^◌, ◌<◌, ◌≤◌, ◌≡◌, false, List, ◌++◌, map, length}
use Rattle.lists.specs.Lists.{filled}
use Rattle.job.specs.declared.Action as act
use Rattle.job.specs.declared.Counts.{Counts}
use Rattle.job.specs.declared.Job as held
use Rattle.job.specs.Job.{Action, unused_action, action_value, action_in, job_in, Fits}
use Rattle.job.specs.Passed.{Passed}
use Rattle.pooling.specs.Pooled.{behind, renumbered, too_large, unlike, shortest_lengths}

-- the sets of the action are words behind so many facts
pub record FitsBehind (facts : ℕ) (a : act.Action) : Type 0 where
  pub needs : behind facts a.needs < 2 ^ 64
  pub adds : behind facts a.adds < 2 ^ 64
  pub deletes : behind facts a.deletes < 2 ^ 64

-- so many pools and stores: no fewer than are counted, and at most four
pub record Widens (counts : Counts) (pools stores : ℕ) : Type 0 where
  pub all_pools : counts.pools ≤ pools
  pub few_pools : pools ≤ 4
  pub all_stores : counts.stores ≤ stores
  pub few_stores : stores ≤ 4

-- the value of the action behind so many facts, in every job with no fewer pools and stores
abbrev pub BehindValue : Counts → ℕ → act.Action → act.Action → Type 0
BehindValue counts facts a r =
    (pools stores : ℕ) → Widens counts pools stores
    → r ≡ action_value (renumbered facts pools stores (action_in counts a))

-- the array has these actions at its front, and only unused places behind them
abbrev pub HasActions : List act.Action → List Action → Type 0
HasActions array xs = array ≡ filled 64 unused_action (map action_value xs)

-- the actions of the job stand behind all that an array had
abbrev pub ActionsBehind : held.Job → ℕ → ℕ → List act.Action → List act.Action → Type 0
ActionsBehind job facts at before after =
    (xs : List Action) (pools stores : ℕ) → length xs ≡ at → HasActions before xs → Widens job.counts pools stores
    → HasActions after (xs ++ map (renumbered facts pools stores) (job_in job).actions)

-- the shortest lengths of the job stand behind all that an array had
abbrev pub LengthsBehind : held.Job → ℕ → List ℕ → List ℕ → Type 0
LengthsBehind job at before after =
    (xs : List ℕ) → length xs ≡ at → before ≡ filled 64 0 xs → after ≡ filled 64 0 (xs ++ shortest_lengths (job_in job))

-- both values pass the tests of a job
pub record BothPass (first second : held.Job) : Type 0 where
  pub fits_first : Fits first.counts
  pub fits_second : Fits second.counts
  pub passed_first : Passed (job_in first)
  pub passed_second : Passed (job_in second)

-- and neither 32 nor 33 holds
pub record Poolable (first second : held.Job) : Type 0 where
  pub both : BothPass first second
  pub not_too_large : too_large (job_in first) (job_in second) ≡ false
  pub not_unlike : unlike (job_in first) (job_in second) ≡ false
