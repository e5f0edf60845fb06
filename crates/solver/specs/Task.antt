-- What the search is asked, and what it promises: a plan with the least end of those that count, or there is none.
-- Assumes nothing.
use Rattle.std.specs.Prelude.{ℕ, ◌<◌, ◌≡◌, true, false, List, length, get_or, Option, Some, None}
use Rattle.facts.specs.FactSet.{foreign}
use Rattle.job.specs.declared.Job as held
use Rattle.job.specs.Refusal.{pass}
use Rattle.job.specs.Job.{Job, job_in}
use Rattle.job.specs.Refusal.{first}
use Rattle.job.specs.Resumed.{resumed}
use Rattle.job.specs.Valid.{limit_rows}
use Rattle.timeline.specs.Step.{Step, strictly_rising}
use Rattle.makespan.specs.Makespan.{Counts, ends_at, no_plan, makespan_from}
use Rattle.tables.specs.Tables.{Known, chosen, no_steps}
use Rattle.tables.specs.declared.Steps.{Steps}
use Rattle.begun.specs.RestOfDay.{at_hand}
use Rattle.landmarks.specs.Bounds.{TimesBound}
use Rattle.leaf.specs.declared.Answer.{Answer}
use Rattle.leaf.specs.Answer.{Found, bytes_in}
use Rattle.leaf.specs.Order.{in_order}
use Rattle.solver.specs.declared.Task.{Task}

-- "Its begun steps are those that start before the given minute": a day of the job for a goal
abbrev pub begun_day : held.Job → ℕ → ℕ → Steps → Task
begun_day job goal minute kept =
    record { start = job.start; stocks = job.stores; goal = goal; first = minute; kept = kept }

-- "Every plan counts, except where a day has begun": the whole day of a job, for its goal
abbrev pub whole_day : held.Job → Task
whole_day job = begun_day job job.goal 0 no_steps

-- the job whose day it is: it starts with the task's facts, and its stores have the task's stocks
abbrev pub day_of : held.Job → Task → Job
day_of job task = resumed (job_in job) task.start task.stocks

-- the steps start before the minute
abbrev pub StartBefore : ℕ → Steps → Type 0
StartBefore minute steps = (k : ℕ) → k < steps.count → get_or steps.starts k 0 < minute

-- what may be asked of the job J: it is within its limits ("26 looks only at the job as given"), the goal has its facts
-- only, and the kept steps are its own, start before the first free minute and stand in rising order
pub record TaskFits (J : Job) (task : Task) : Type 0 where
  pub passes : first (limit_rows J) ≡ pass
  pub goal : foreign J.facts task.goal ≡ false
  pub known : Known (length J.actions) task.kept
  pub early : StartBefore task.first task.kept
  pub rising : strictly_rising (in_order J task.kept) ≡ true
  pub minute : task.first < 65536

-- the answer for a goal, with the begun steps K and the others from the minute on: a plan that counts, with the least
-- end of the accepted ones; or there is none
pub record Solved (J : Job) (goal minute : ℕ) (K : List Step) (r : Option Answer) : Type 0 where
  pub found : (a : Answer) → r ≡ Some a
      → Found J goal J.deadline a × Counts J minute K (bytes_in a) × (makespan_from J goal minute K ≡ ends_at a.end)
  pub none : r ≡ None → makespan_from J goal minute K ≡ no_plan

-- ---- what inner functions promise

-- the times bound what is left of the day from the minute on, with the kept steps, and the set is what is then at hand
pub record RestTimes (day : held.Job) (kept : Steps) (minute : ℕ) (times : List ℕ) (set : ℕ) : Type 0 where
  pub whole : length times ≡ 2080
  pub bound : TimesBound (job_in day) minute (chosen (job_in day) kept) minute times
  pub hand : set ≡ at_hand (job_in day) minute (chosen (job_in day) kept)
