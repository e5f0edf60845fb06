-- The first half as a task of the list: the whole day of the job, for the halfway set.
-- Assumes nothing.
use Prim.Native.Nat.{ℕ}
use mathlib.Core.Path.{◌≡◌, refl, sym, subst}
use mathlib.Core.Bool.{false}
use native.Mathlib.Omega.{arith}
use Rattle.lists.specs.Lists.{tabulate}
use Rattle.facts.specs.FactSet.{foreign}
use Rattle.job.specs.declared.Job as held
use Rattle.job.specs.Refusal.{pass}
use Rattle.job.specs.Job.{Job, job_in}
use Rattle.job.specs.Refusal.{first}
use Rattle.job.specs.Valid.{job_rows}
use Rattle.job.proofs.Rows.{limits_of_pass}
use Rattle.job.proofs.Resuming.{resumed_as_it_is}
use Rattle.tables.specs.Tables.{no_steps}
use Rattle.solver.specs.declared.Task.{Task}
use Rattle.solver.specs.Task.{begun_day, day_of, TaskFits}
use Rattle.solver.proofs.TaskDays.{begun_day_fits}
use Rattle.walker.specs.Page.{Page}
use Rattle.walker.specs.Page.{WholeTask, PageOf}

module _ (job : held.Job) (halfway : ℕ) (task : Task) (is : task ≡ begun_day job halfway 0 no_steps) where
  pub halfway_fits : first (job_rows (job_in job)) ≡ pass → foreign job.facts halfway ≡ false
      → TaskFits (day_of job task) task
  unfolding tabulate
  halfway_fits passes own =
      begun_day_fits job halfway 0 no_steps task is
      (record {
        passes = limits_of_pass (job_in job) passes;
        goal = own;
        known = record { few = omega arith; numbers = refl; starts = refl; known = λ k l. absurd (omega arith) };
        early = λ k l. absurd (omega arith);
        rising = refl;
        minute = omega arith;
      })

  pub halfway_is_whole : WholeTask task
  halfway_is_whole = subst WholeTask (sym is) (record { first = refl; kept = refl })

  pub page_of_halfway : (place : ℕ) (r : Page) → PageOf (day_of job task) task.goal place r
      → PageOf (job_in job) halfway place r
  page_of_halfway place r of =
      subst (λ (J : Job). PageOf J halfway place r) (resumed_as_it_is job)
      (subst (λ (t : Task). PageOf (day_of job t) t.goal place r) is of)
