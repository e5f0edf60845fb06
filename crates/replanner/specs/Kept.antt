-- What inner functions of the replanner promise: the kept steps, and the answer with them.
-- Assumes nothing.
use Rattle.std.specs.Prelude.{Option, Some}
use Rattle.std.specs.Prelude.{ℕ, ◌≤◌, ◌<◌, ◌≡◌, true, false, List, length, get_or}
use Rattle.lists.specs.Lists.{tabulate}
use Rattle.job.specs.Job.{Job}
use Rattle.timeline.specs.declared.Plan.{Plan}
use Rattle.timeline.specs.Step.{Step, steps_in, strictly_rising, plan_bytes}
use Rattle.timeline.specs.Keeps.{OfJob}
use Rattle.timeline.specs.Value.{step_at}
use Rattle.makespan.specs.Makespan.{begun, passes}
use Rattle.tables.specs.Tables.{Known}
use Rattle.tables.specs.declared.Steps.{Steps}
use Rattle.leaf.specs.declared.Answer.{Answer}
use Rattle.leaf.specs.Answer.{Found, bytes_in}
use Rattle.leaf.specs.Order.{in_order}
use Rattle.solver.specs.Task.{Solved}

-- of the first n steps of the plan those that start before the minute, in their order; which job it is a plan of is
-- left to the reader
pub record Keeps (plan : Plan) (n minute : ℕ) (kept : Steps) : Type 0 where
  pub few : kept.count ≤ n
  pub numbers : length kept.numbers ≡ 32
  pub starts : length kept.starts ≡ 32
  pub same : (J : Job) → ((k : ℕ) → k < n → OfJob J (step_at plan k))
      → in_order J kept ≡ begun minute (tabulate n (step_at plan))

-- the kept steps are the job's, start before the minute and stand in rising order
pub record KeptFit (J : Job) (minute : ℕ) (kept : Steps) : Type 0 where
  pub known : Known (length J.actions) kept
  pub early : (k : ℕ) → k < kept.count → get_or kept.starts k 0 < minute
  pub small : (k : ℕ) → k < kept.count → get_or kept.starts k 0 < 65536
  pub rising : strictly_rising (in_order J kept) ≡ true

-- the answer is the plan of the kept steps K and no others, which is accepted
pub record Alone (J : Job) (goal : ℕ) (K : List Step) (r : Option Answer) : Type 0 where
  pub answer : Answer
  pub found : r ≡ Some answer
  pub plan : Found J goal J.deadline answer
  pub bytes : bytes_in answer ≡ plan_bytes K
  pub steps : steps_in J (bytes_in answer) ≡ K

-- the answer with the kept steps K: these alone where they pass, and otherwise a shortest plan with them
pub record Replanned (J : Job) (goal minute : ℕ) (K : List Step) (r : Option Answer) : Type 0 where
  pub alone : passes J goal K ≡ true → Alone J goal K r
  pub solved : passes J goal K ≡ false → Solved J goal minute K r
