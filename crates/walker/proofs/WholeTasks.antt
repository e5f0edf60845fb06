-- A task of a whole day: its frame keeps no step.
-- Assumes nothing.
use Prim.Native.Nat.{ℕ}
use mathlib.Core.Path.{◌≡◌, refl, sym, ap, subst}
use Rattle.job.specs.declared.Job as held
use Rattle.job.specs.Job.{Job, job_in}
use Rattle.job.proofs.Resuming.{resumed_as_it_is}
use Rattle.tables.specs.Filled.{frame_of, FramedAs}
use Rattle.tables.specs.declared.Frame.{Frame}
use Rattle.tables.specs.declared.Steps.{Steps}
use Rattle.solver.specs.declared.Task.{Task}
use Rattle.solver.specs.Task.{whole_day, day_of}
use Rattle.walker.specs.Page.{Page}
use Rattle.walker.specs.Walk.{WholeDay}
use Rattle.walker.specs.Page.{WholeTask, PageOf}

module _ (day : held.Job) (task : Task) (whole : WholeTask task) (frame : Frame)
    (framed : FramedAs day task.goal task.first task.kept frame) where
  of : (F : Frame → Type 0) → F (frame_of day task.goal task.first task.kept frame.handovers) → F frame
  of F = subst F (sym framed.same)

  pub whole_frame : WholeDay frame
  whole_frame =
      of WholeDay
      (record {
        first = whole.first;
        none = ap (λ (s : Steps). s.count) whole.kept;
        origin = whole.first;
        given = refl;
      })

  pub frame_from_first : frame.origin ≡ 0
  frame_from_first = of (λ f. f.origin ≡ 0) whole.first

  pub frame_to_deadline : frame.horizon ≡ (job_in day).deadline
  frame_to_deadline = of (λ f. f.horizon ≡ (job_in day).deadline) refl

  pub frame_from_least : frame.least ≡ 0
  frame_from_least = of (λ f. f.least ≡ 0) refl

  pub frame_for_goal : frame.goal ≡ task.goal
  frame_for_goal = of (λ f. f.goal ≡ task.goal) refl

-- the whole day of a job is such a task
module _ (job : held.Job) (task : Task) (is : task ≡ whole_day job) where
  pub whole_day_is_whole : WholeTask task
  whole_day_is_whole = subst WholeTask (sym is) (record { first = refl; kept = refl })

  pub page_of_whole_day : (place : ℕ) (r : Page) → PageOf (day_of job task) task.goal place r
      → PageOf (job_in job) job.goal place r
  page_of_whole_day place r of =
      subst (λ (J : Job). PageOf J job.goal place r) (resumed_as_it_is job)
      (subst (λ (t : Task). PageOf (day_of job t) t.goal place r) is of)
