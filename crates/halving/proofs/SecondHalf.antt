-- The second half as a task of the list: what an accepted first half, read from its bytes, leaves.
-- Assumes nothing.
use Rattle.std.specs.Prelude.{Result, Ok, Err, is_ok, true}
use Rattle.job.specs.declared.refusal.Refusal.{Refusal}
use Prim.Native.Nat.{ℕ, ◌<◌, ◌≤◌}
use mathlib.Core.Path.{◌≡◌, refl, sym, ap, subst, ◌∙◌}
use mathlib.Core.List.{List}
use native.Mathlib.Omega.{arith}
use lib.ListN.{length}
use Rattle.lists.proofs.Tabulate.{length_tabulate}
use Rattle.job.specs.declared.Job as held
use Rattle.job.specs.Refusal.{pass}
use Rattle.job.specs.Job.{Job, Fits, job_in}
use Rattle.job.specs.Refusal.{first}
use Rattle.job.specs.Resources.{store_cap}
use Rattle.job.specs.Resumed.{unreserved_value}
use Rattle.job.specs.Valid.{job_rows}
use Rattle.job.proofs.Passed.{passed}
use Rattle.job.proofs.Rows.{fits_of_pass}
use Rattle.timeline.specs.Step.{Step, steps_in}
use Rattle.timeline.specs.Timeline.{end, used_up}
use Rattle.timeline.specs.Accepted.{Accepted}
use Rattle.timeline.specs.Places.{EachStep}
use Rattle.timeline.specs.Keeps.{OfJob}
use Rattle.timeline.specs.Value.{steps_of}
use Rattle.timeline.proofs.AcceptedSteps.{AcceptedSteps, accepted_steps}
use Rattle.timeline.proofs.DayLaws.{verdict_of_day}
use Rattle.timeline.proofs.JobSteps.{steps_in_bytes, steps_of_accepted}
use Rattle.checker.specs.declared.CheckedPlan.{CheckedPlan}
use Rattle.checker.specs.Check.{Decodes, ChecksPlan}
use Rattle.makespan.proofs.LeastEnds.{ends_by_deadline}
use Rattle.solver.specs.declared.Task.{Task}
use Rattle.solver.specs.Task.{day_of, TaskFits}
use Rattle.walker.specs.Page.{Page}
use Rattle.walker.specs.Page.{WholeTask, PageOf}
use Rattle.halving.specs.Afternoon.{afternoon}
use Rattle.halving.specs.Inner.{StoresSuffice, LeavesTask}
use Rattle.halving.proofs.AfternoonTask.{afternoon_fits}

-- the plan of an accepted first half is there
pub is_checked : (job : held.Job) (halfway : ℕ) (bytes : List ℕ) → Accepted (job_in job) halfway bytes
    → (r : Result CheckedPlan Refusal) → ChecksPlan job halfway bytes r → is_ok r ≡ true
is_checked job halfway bytes accepted (Ok checked) told = refl
is_checked job halfway bytes accepted (Err why) told =
    let e = verdict_of_day _ (job_in job) (steps_in (job_in job) bytes) (Err why) told.day ∙ accepted in cc

module _ (job : held.Job) (halfway : ℕ) (bytes : List ℕ) (valid : first (job_rows (job_in job)) ≡ pass)
    (accepted : Accepted (job_in job) halfway bytes) (checked : CheckedPlan)
    (r : Result CheckedPlan Refusal) (is : r ≡ Ok checked) (told : ChecksPlan job halfway bytes r)
  where
    decodes : Decodes job bytes checked.plan
    decodes = told.plan checked is

    keeps : AcceptedSteps (job_in job) halfway (steps_in (job_in job) bytes)
    keeps =
        accepted_steps (job_in job) halfway (steps_in (job_in job) bytes)
        (steps_of_accepted (job_in job) halfway bytes accepted)

    -- what `afternoon` asks of the plan
    pub decoded_fits : (checked.plan.length ≤ 32) × (checked.plan.counts ≡ job.counts) × Fits job.counts
        × StoresSuffice job checked.plan
    decoded_fits = (
      decodes.few,
      decodes.counts,
      fits_of_pass job valid,
      λ store l.
          let count : length (job_in job).stores ≡ job.counts.stores = length_tabulate job.counts.stores _ in
          subst (λ (P : List Step). used_up (job_in job) store P ≤ store_cap (job_in job) store) (sym decodes.steps)
          (keeps.stores store (omega arith)),
    )

    pub decoded_ends : end (steps_of checked.plan) < 65536
    decoded_ends =
        let last = ends_by_deadline (job_in job) halfway bytes accepted in
        let short = (passed (job_in job) valid).deadline in
        subst (λ (P : List Step). end P < 65536) (sym decodes.steps) (omega arith)

    -- the task that it leaves
    module _ (task : Task) (leaves : LeavesTask job checked.plan task) where
      pub second_fits : TaskFits (day_of (unreserved_value job) task) task
      second_fits =
          afternoon_fits job checked.plan task leaves valid
          (subst (λ (P : List Step). EachStep (OfJob (job_in job)) P) (sym decodes.steps)
          (steps_in_bytes (job_in job) bytes))
          (subst (λ (P : List Step). EachStep (λ x. x.number < length (job_in job).actions) P) (sym decodes.steps)
          keeps.known)

      pub second_is_whole : WholeTask task
      second_is_whole = subst WholeTask (sym leaves.whole) (record { first = refl; kept = refl })

      pub page_of_second : (place : ℕ) (r : Page) → PageOf (day_of (unreserved_value job) task) task.goal place r
          → PageOf (afternoon (job_in job) (steps_in (job_in job) bytes)) job.goal place r
      page_of_second place r of =
          subst (λ (P : List Step). PageOf (afternoon (job_in job) P) job.goal place r) decodes.steps
          (subst (λ (D : Job). PageOf D job.goal place r) leaves.day
          (subst (λ (g : ℕ). PageOf (day_of (unreserved_value job) task) g place r)
          (ap (λ (t : Task). t.goal) leaves.whole) of))
