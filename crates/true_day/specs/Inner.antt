-- What inner functions ask and promise.
-- Assumes nothing.
use Rattle.std.specs.Prelude.{ℕ, ◌+◌, ◌^◌, ◌<◌, ◌≤◌, ◌≡◌, List, get_or}
use Rattle.job.specs.declared.Job as held
use Rattle.job.specs.Job.{job_in, Fits}
use Rattle.job.specs.Lengths.{longest_of}
use Rattle.timeline.specs.declared.Plan.{Plan}
use Rattle.timeline.specs.Value.{step_at}

-- a plan of the job's own steps, by their numbers
pub record Own (job : held.Job) (plan : Plan) : Type 0 where
  pub fits : Fits job.counts
  pub few : plan.length ≤ 32
  pub counts : plan.counts ≡ job.counts
  pub known : (i : ℕ) → i < plan.length → (step_at plan i).number < job.counts.actions
  pub longest : (i : ℕ) → i < plan.length
      → (step_at plan i).action.duration ≡ longest_of (job_in job) (step_at plan i).number

-- so many minutes behind each start are a number of 32 bits
abbrev pub Ends : Plan → List ℕ → Type 0
Ends plan lengths = (i : ℕ) → i < plan.length → (step_at plan i).start + get_or lengths i 0 < 2 ^ 32
