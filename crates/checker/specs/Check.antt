-- What the checker answers.
-- Assumes nothing.
use Rattle.job.specs.declared.refusal.Refusal.{Refusal}
use Rattle.std.specs.Prelude.{Result, Ok, Err}
use Rattle.std.specs.Prelude.{ℕ, ◌<◌, ◌≤◌, ◌≡◌, List, ◌∷◌, ◌++◌}
use Rattle.facts.specs.FactSet.{foreign}
use Rattle.job.specs.declared.Job as held
use Rattle.job.specs.Job.{Job, job_in}
use Rattle.job.specs.Refusal.{reply_of, Row, ◌when◌, first, reply_by}
use Rattle.job.specs.Valid.{limit_rows, job_rows}
use Rattle.job.specs.declared.refusal.Refusal.TheVariants.{ForeignAskedFact}
use Rattle.job.specs.Refusal.{pass}
use Rattle.timeline.specs.declared.Day.{Day}
use Rattle.timeline.specs.declared.Plan.{Plan}
use Rattle.timeline.specs.Step.{steps_in}
use Rattle.timeline.specs.Timeline.{peak}
use Rattle.timeline.specs.Accepted.{shape_rows, plan_rows}
use Rattle.timeline.specs.Day.{told_of, day_of}
use Rattle.timeline.specs.Value.{steps_of}
use Rattle.checker.specs.declared.CheckedPlan.{CheckedPlan}

-- the tests of the job, then 12 to 20 of the plan with the job's goal
unfoldable pub check_rows : Job → List ℕ → List Row
check_rows J bytes = job_rows J ++ plan_rows J J.goal bytes

-- "the checker returns the end", the number of steps and "the largest such amount for each of four pools"
unfoldable pub check_plan : Job → List ℕ → Result Day Refusal
check_plan J bytes = day_of (first (check_rows J bytes)) J (steps_in J bytes)

-- the answer to a job and a plan, and the paper's reply
pub record Checks (J : Job) (bytes : List ℕ) (answer : Result Day Refusal) : Type 0 where
  pub answers : answer ≡ check_plan J bytes
  pub replies : reply_of answer ≡ reply_by (first (check_rows J bytes)) (told_of J (steps_in J bytes))

-- ---- what inner functions promise

-- with another goal, whose foreign bits are tested "after the job and before the plan"
unfoldable pub check_for : Job → ℕ → List ℕ → Result Day Refusal
check_for J goal bytes =
    day_of (first (job_rows J ++ (ForeignAskedFact when foreign J.facts goal ∷ plan_rows J goal bytes))) J
    (steps_in J bytes)

-- the same of a job that may be what is left of a day: its limits alone are tested, and not 26
unfoldable pub check_within : Job → ℕ → List ℕ → Result Day Refusal
check_within J goal bytes =
    day_of (first (limit_rows J ++ (ForeignAskedFact when foreign J.facts goal ∷ plan_rows J goal bytes))) J
    (steps_in J bytes)

-- tests 12 to 15 alone, of a plan to be joined: what is told of it, whether or not it passes 16 to 20
unfoldable pub shape_day : Job → List ℕ → Result Day Refusal
shape_day J bytes = day_of (first (shape_rows J bytes)) J (steps_in J bytes)

-- a job value that passes its tests
abbrev pub Valid : held.Job → Type 0
Valid job = first (job_rows (job_in job)) ≡ pass

-- a job value within its limits
abbrev pub Limited : held.Job → Type 0
Limited job = first (limit_rows (job_in job)) ≡ pass

-- no peak of the plan is more than 32 steps can use together
abbrev pub SmallPeaks : held.Job → Plan → Type 0
SmallPeaks job plan =
    (pool : ℕ) → pool < job.counts.pools → peak (job_in job) pool (steps_of plan) ≤ 32000000

-- the plan has the steps of the bytes
pub record Decodes (job : held.Job) (bytes : List ℕ) (plan : Plan) : Type 0 where
  pub few : plan.length ≤ 32
  pub counts : plan.counts ≡ job.counts
  pub steps : steps_of plan ≡ steps_in (job_in job) bytes

-- what is told of a plan by value that is checked
abbrev pub day_in : Result CheckedPlan Refusal → Result Day Refusal
day_in (Ok checked) = Ok checked.day
day_in (Err why) = Err why

-- tests 12 to 20 of the bytes; the plan of those that pass
pub record ChecksPlan (job : held.Job) (goal : ℕ) (bytes : List ℕ) (r : Result CheckedPlan Refusal) : Type 0 where
  pub day : day_in r ≡ day_of (first (plan_rows (job_in job) goal bytes)) (job_in job) (steps_in (job_in job) bytes)
  pub plan : (checked : CheckedPlan) → r ≡ Ok checked → Decodes job bytes checked.plan
