-- What is answered of a plan's bytes, from what each test says.
-- Assumes nothing.
use Rattle.std.specs.Prelude.{Result, Ok, Err}
use Prim.Native.Nat.{ℕ}
use mathlib.Core.Path.{◌≡◌, sym, ap, subst, ◌∙◌}
use mathlib.Core.List.{List}
use Rattle.job.specs.declared.Job as held
use Rattle.job.specs.declared.refusal.Refusal.{Refusal}
use Rattle.job.specs.Refusal.{Verdict}
use Rattle.job.specs.Refusal.{pass}
use Rattle.job.specs.Job.{Job, job_in}
use Rattle.job.specs.Refusal.{first}
use Rattle.job.specs.Valid.{job_rows}
use Rattle.job.proofs.Table.{first_append_pass, first_append_refused}
use Rattle.timeline.specs.declared.Day.{Day}
use Rattle.timeline.specs.Step.{steps_in}
use Rattle.timeline.specs.Accepted.{plan_rows}
use Rattle.timeline.specs.Day.{told_of, day_of}
use Rattle.timeline.proofs.DayLaws.{reply_of_day}
use Rattle.checker.specs.declared.CheckedPlan.{CheckedPlan}
use Rattle.checker.specs.Check.{check_rows, check_plan, Checks, Decodes, ChecksPlan}

module _ (job : held.Job) (goal : ℕ) (bytes : List ℕ) (r : Result CheckedPlan Refusal) where
  pub checks_refused : (why : Refusal) → r ≡ Err why → first (plan_rows (job_in job) goal bytes) ≡ Err why
      → ChecksPlan job goal bytes r
  checks_refused why d h = record { day = rw (d, h); plan = λ checked e. let z = sym d ∙ e in cc }

  -- the tests of the steps passed, once the bytes are decoded
  pub checks_decoded : (checked : CheckedPlan) → r ≡ Ok checked → Decodes job bytes checked.plan
      → first (plan_rows (job_in job) goal bytes) ≡ pass → checked.day ≡ told_of (job_in job) (steps_in (job_in job) bytes)
      → ChecksPlan job goal bytes r
  checks_decoded checked d decodes h day =
      record {
        day = rw (d, h) (ap Ok day);
        plan = λ other e. let same : checked ≡ other = let z = sym d ∙ e in cc in
            subst (λ (x : CheckedPlan). Decodes job bytes x.plan) same decodes;
      }

module _ (J : Job) (bytes : List ℕ) (r : Result Day Refusal) where
  checks_of_answer : r ≡ check_plan J bytes → Checks J bytes r
  unfolding check_plan
  checks_of_answer answers =
      record {
        answers = answers;
        replies = rw answers (reply_of_day (first (check_rows J bytes)) J (steps_in J bytes));
      }

  pub checks_refused_job : (why : Refusal) → r ≡ Err why → first (job_rows J) ≡ Err why → Checks J bytes r
  unfolding check_plan check_rows
  checks_refused_job why d h =
      checks_of_answer
      (d ∙ sym (ap (λ (v : Verdict). day_of v J (steps_in J bytes)) (first_append_refused (job_rows J) _ why h)))

  pub checks_valid_job : first (job_rows J) ≡ pass → r ≡ day_of (first (plan_rows J J.goal bytes)) J (steps_in J bytes)
      → Checks J bytes r
  unfolding check_plan check_rows
  checks_valid_job h d =
      checks_of_answer (d ∙ sym (ap (λ (v : Verdict). day_of v J (steps_in J bytes)) (first_append_pass (job_rows J) _ h)))
