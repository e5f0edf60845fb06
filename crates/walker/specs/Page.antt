-- What is promised of the plan at a place of the list, for a task.
-- Assumes nothing.
use Rattle.std.specs.Prelude.{Option, Some, None}
use Rattle.std.specs.Prelude.{ℕ, ◌≡◌, true, false, List}
use Rattle.job.specs.Job.{Job}
use Rattle.job.specs.Passed.{Passed}
use Rattle.timeline.specs.Step.{Step}
use Rattle.makespan.specs.Makespan.{ends_at, no_plan, makespan}
use Rattle.tables.specs.declared.Frame.{Frame}
use Rattle.tables.specs.Tables.{no_steps}
use Rattle.search.specs.Search.{TaskOf}
use Rattle.solver.specs.declared.Task.{Task}
use Rattle.listing.specs.Place.{AtPlace, EndsBefore}
use Rattle.leaf.specs.declared.Answer.{Answer}
use Rattle.walker.specs.Walk.{WholeDay, Tells}

-- a task of a whole day: no step is kept
pub record WholeTask (task : Task) : Type 0 where
  pub first : task.first ≡ 0
  pub kept : task.kept ≡ no_steps

-- the answer: none where there is no plan at all; otherwise the plan at the place, where the list has one there
abbrev pub Page : Type 0
Page = Option (Option Answer)

-- no plan is accepted; or the plan at the place; or the list ends before
pub record PageOf (J : Job) (goal place : ℕ) (r : Page) : Type 0 where
  pub none : r ≡ None → makespan J goal ≡ no_plan
  pub some : (at : Option Answer) → r ≡ Some at → (T : ℕ) × (makespan J goal ≡ ends_at T)
  pub found : (a : Answer) → r ≡ Some (Some a)
      → (P : List Step) × AtPlace J goal place P × Tells J goal J.deadline a P
  pub ended : r ≡ Some None → EndsBefore J goal place

-- for every job whose whole day the tables are
abbrev pub PageFrom : List ℕ → List ℕ → List ℕ → List ℕ → Frame → ℕ → Page → Type 0
PageFrom file sets numbers times frame place r =
    (J : Job) → TaskOf J file sets numbers times frame → Passed J → WholeDay frame
    → frame.horizon ≡ J.deadline → frame.least ≡ 0 → PageOf J frame.goal place r
