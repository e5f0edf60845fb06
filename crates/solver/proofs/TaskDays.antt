-- A day of a job with its own start and stocks, begun or whole: a task that fits, and its answer is one for the job.
-- Assumes nothing.
use Rattle.std.specs.Prelude.{Option}
use Prim.Native.Nat.{ℕ}
use mathlib.Core.Path.{◌≡◌, refl, sym, subst}
use mathlib.Core.List.{[]}
use native.Mathlib.Omega.{arith}
use Rattle.lists.specs.Lists.{tabulate}
use Rattle.job.specs.declared.Job as held
use Rattle.job.specs.Refusal.{pass}
use Rattle.job.specs.Job.{Job, job_in}
use Rattle.job.specs.Refusal.{first}
use Rattle.job.specs.Valid.{job_rows}
use Rattle.job.proofs.Passed.{passed}
use Rattle.job.proofs.Rows.{limits_of_pass}
use Rattle.job.proofs.Resuming.{resumed_as_it_is}
use Rattle.tables.specs.declared.Steps.{Steps}
use Rattle.tables.specs.Tables.{no_steps}
use Rattle.leaf.specs.declared.Answer.{Answer}
use Rattle.leaf.specs.Order.{in_order}
use Rattle.solver.specs.declared.Task.{Task}
use Rattle.solver.specs.Task.{begun_day, whole_day, day_of, TaskFits, Solved}

module _ (job : held.Job) (goal minute : ℕ) (kept : Steps) (task : Task) (is : task ≡ begun_day job goal minute kept) where
  pub begun_day_fits : TaskFits (job_in job) (begun_day job goal minute kept) → TaskFits (day_of job task) task
  begun_day_fits fits =
      subst (λ (t : Task). TaskFits (day_of job t) t) (sym is)
      (subst (λ (J : Job). TaskFits J (begun_day job goal minute kept)) (sym (resumed_as_it_is job)) fits)

  pub begun_day_solved : (r : Option Answer)
      → Solved (day_of job task) task.goal task.first (in_order (day_of job task) task.kept) r
      → Solved (job_in job) goal minute (in_order (job_in job) kept) r
  begun_day_solved r solved =
      subst (λ (J : Job). Solved J goal minute (in_order J kept) r) (resumed_as_it_is job)
      (subst (λ (t : Task). Solved (day_of job t) t.goal t.first (in_order (day_of job t) t.kept) r) is solved)

module _ (job : held.Job) (task : Task) (is : task ≡ whole_day job) where
  pub whole_day_fits : first (job_rows (job_in job)) ≡ pass → TaskFits (day_of job task) task
  unfolding tabulate
  whole_day_fits passes =
      begun_day_fits job job.goal 0 no_steps task is
      (record {
        passes = limits_of_pass (job_in job) passes;
        goal = (passed (job_in job) passes).goal.within;
        known = record { few = omega arith; numbers = refl; starts = refl; known = λ k l. absurd (omega arith) };
        early = λ k l. absurd (omega arith);
        rising = refl;
        minute = omega arith;
      })

  pub whole_day_solved : (r : Option Answer)
      → Solved (day_of job task) task.goal task.first (in_order (day_of job task) task.kept) r
      → Solved (job_in job) job.goal 0 [] r
  unfolding tabulate
  whole_day_solved r solved = begun_day_solved job job.goal 0 no_steps task is r solved
