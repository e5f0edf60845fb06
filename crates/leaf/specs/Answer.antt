-- What the search answers at the first minute: a plan that is accepted, or nothing, and then a dead end.
-- Assumes nothing.
use Rattle.job.specs.declared.refusal.Refusal.{Refusal}
use Rattle.std.specs.Prelude.{ℕ, ◌*◌, ◌≤◌, ◌<◌, ◌≡◌, false, cond, List, ltb, length, get_or, take, replicate, Option, Some, None, Result, Ok, Err}
use Rattle.encoding.specs.Bytes.{overwrite}
use Rattle.facts.specs.FactSet.{foreign}
use Rattle.job.specs.declared.Job as held
use Rattle.job.specs.Refusal.{pass}
use Rattle.job.specs.Job.{Job, job_in}
use Rattle.job.specs.Refusal.{first}
use Rattle.job.specs.Resumed.{resumed}
use Rattle.job.specs.Valid.{limit_rows}
use Rattle.jobfile.specs.Answers.{read_file}
use Rattle.timeline.specs.Step.{steps_in, plan_bytes}
use Rattle.timeline.specs.From.{From}
use Rattle.timeline.specs.Timeline.{end, peaks}
use Rattle.timeline.specs.Accepted.{Accepted}
use Rattle.timeline.specs.Places.{Permutation}
use Rattle.timeline.specs.declared.Day.{Day}
use Rattle.checker.specs.Check.{check_within}
use Rattle.regression.specs.DeadEnd.{Until, Dead}
use Rattle.tables.specs.Tables.{chosen, Known}
use Rattle.tables.specs.declared.Frame.{Frame}
use Rattle.tables.specs.declared.Steps.{Steps}
use Rattle.leaf.specs.declared.Answer.{Answer}
use Rattle.leaf.specs.Order.{in_order}

-- the plan, where it is accepted and ends by the horizon T
abbrev pub answer_of : Result Day Refusal → ℕ → ℕ → List ℕ → Option Answer
answer_of (Ok day) T count plan =
    cond (ltb T day.end) None (Some (record { end = day.end; count = count; peaks = day.peaks; plan = plan }))
answer_of (Err why) T count plan = None

-- the bytes of the steps, zeros behind them
abbrev pub plan_of : Job → Steps → List ℕ
plan_of J steps = overwrite (replicate 96 0) 0 (plan_bytes (in_order J steps))

-- what the checker says of the steps as they stand
abbrev pub Answers : Job → ℕ → ℕ → Steps → Option Answer → Type 0
Answers J goal T steps r =
    r ≡ answer_of (check_within J goal (plan_bytes (in_order J steps))) T steps.count (plan_of J steps)

-- J is the job of the file with these facts at its start and so much in its stores, and is within its limits
pub record FileOf (J : Job) (file : List ℕ) (start : ℕ) (supplies : List ℕ) : Type 0 where
  pub value : held.Job
  pub read : read_file file ≡ Ok value
  pub same : resumed (job_in value) start supplies ≡ J
  pub passes : first (limit_rows J) ≡ pass

-- the bytes of the answer's plan
abbrev pub bytes_in : Answer → List ℕ
bytes_in r = take (3 * r.count) r.plan

-- the answer is a plan that is accepted for the goal and ends by T, with its end and its peaks
pub record Found (J : Job) (goal T : ℕ) (r : Answer) : Type 0 where
  pub few : r.count ≤ 32
  pub whole : length (bytes_in r) ≡ 3 * r.count
  pub accepted : Accepted J goal (bytes_in r)
  pub end : end (steps_in J (bytes_in r)) ≡ r.end
  pub peaks : peaks J (steps_in J (bytes_in r)) ≡ r.peaks
  pub in_time : r.end ≤ T

-- the frame's goal and horizon are such as the job may be asked for, and the steps are the job's
pub record Asked (J : Job) (frame : Frame) (steps : Steps) : Type 0 where
  pub goal : foreign J.facts frame.goal ≡ false
  pub in_time : frame.horizon ≤ J.deadline
  pub known : Known (length J.actions) steps

-- a plan that is found is accepted and has the chosen steps; where none is, they are a dead end
pub record Finishes (file : List ℕ) (frame : Frame) (steps : Steps) (r : Option Answer) : Type 0 where
  pub found : (a : Answer) → r ≡ Some a → (J : Job) → FileOf J file frame.start frame.supplies
      → Found J frame.goal frame.horizon a
  pub same : (a : Answer) → r ≡ Some a → (J : Job) → FileOf J file frame.start frame.supplies
      → Known (length J.actions) steps → ((k : ℕ) → k < steps.count → get_or steps.starts k 0 < 65536)
      → Permutation (steps_in J (bytes_in a)) (chosen J steps)
  pub bytes : (a : Answer) → r ≡ Some a → (J : Job) → FileOf J file frame.start frame.supplies
      → Known (length J.actions) steps → ((k : ℕ) → k < steps.count → get_or steps.starts k 0 < 65536)
      → bytes_in a ≡ plan_bytes (steps_in J (bytes_in a))
  pub dead : r ≡ None → (J : Job) → FileOf J file frame.start frame.supplies → Asked J frame steps
      → (b : From) (t : ℕ) → t ≤ b.minute
      → Dead J b frame.goal frame.horizon (Until b t) (chosen J steps)
