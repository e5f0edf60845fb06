-- What inner functions promise of the afternoon.
-- Assumes nothing.
use Rattle.std.specs.Prelude.{ℕ, ◌<◌, ◌≤◌, ◌≡◌, List, get_or}
use Rattle.job.specs.declared.Job as held
use Rattle.job.specs.Job.{job_in}
use Rattle.job.specs.Resources.{store_cap}
use Rattle.job.specs.Resumed.{unreserved_value}
use Rattle.timeline.specs.declared.Plan.{Plan}
use Rattle.timeline.specs.Timeline.{used_up}
use Rattle.timeline.specs.Value.{steps_of}
use Rattle.tables.specs.Tables.{no_steps}
use Rattle.solver.specs.declared.Task.{Task}
use Rattle.solver.specs.Task.{day_of}
use Rattle.halving.specs.Afternoon.{left_of, afternoon}

-- the plan uses up no more of each store than is allowed
abbrev pub StoresSuffice : held.Job → Plan → Type 0
StoresSuffice job plan =
    (store : ℕ) → store < job.counts.stores
    → used_up (job_in job) store (steps_of plan) ≤ store_cap (job_in job) store

-- the first n places hold what is left of the stores
abbrev pub LeftInStores : held.Job → Plan → ℕ → List ℕ → Type 0
LeftInStores job plan n stores =
    (store : ℕ) → store < n → get_or stores store 0 ≡ left_of (job_in job) (steps_of plan) store

-- a whole day for a goal, from these facts and stores
abbrev pub whole_from : ℕ → List ℕ → ℕ → Task
whole_from start stocks goal = record { start = start; stocks = stocks; goal = goal; first = 0; kept = no_steps }

-- the task, asked of the job without its reserve, is the afternoon's day, whole and for the job's goal
pub record LeavesTask (job : held.Job) (plan : Plan) (task : Task) : Type 0 where
  pub whole : task ≡ whole_from task.start task.stocks job.goal
  pub day : day_of (unreserved_value job) task ≡ afternoon (job_in job) (steps_of plan)
