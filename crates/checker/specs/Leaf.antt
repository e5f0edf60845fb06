-- What inner functions of the checker promise: amounts of a pool, in every job with this handover of it.
-- Assumes nothing.
use Rattle.std.specs.Prelude.{ℕ, ◌<◌, ◌≡◌, cond, get_or}
use Rattle.job.specs.declared.Counts.{Counts}
use Rattle.job.specs.Job.{Job}
use Rattle.job.specs.Resources.{handover}
use Rattle.timeline.specs.declared.Step as value
use Rattle.timeline.specs.declared.Plan.{Plan}
use Rattle.timeline.specs.Timeline.{has_share, in_use, peak}
use Rattle.timeline.specs.Value.{step_of_value, steps_of}

-- the use counts where the step has its share
pub record Share (x : value.Step) (pool wait minute amount : ℕ) : Type 0 where
  pub counts : (J : Job) (n : Counts) → handover J pool ≡ wait → pool < n.pools
      → amount ≡ cond (has_share J pool minute (step_of_value n x)) (get_or (step_of_value n x).action.pools pool 0) 0
  pub small : amount < 4294967296

-- the amount of a pool that is in use in a minute
abbrev pub InUse : Plan → ℕ → ℕ → ℕ → ℕ → Type 0
InUse plan pool wait minute amount = (J : Job) → handover J pool ≡ wait → amount ≡ in_use J pool minute (steps_of plan)

-- the most of a pool that is in use in a minute
abbrev pub PeakOf : Plan → ℕ → ℕ → ℕ → Type 0
PeakOf plan pool wait amount = (J : Job) → handover J pool ≡ wait → amount ≡ peak J pool (steps_of plan)
