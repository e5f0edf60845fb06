-- `check` meets its contract: the tests of the job, then those of the plan.
use Rattle.std.proofs.Common.{rules, Err, ◌≡◌, sym, ◌∙◌}
use Rattle.job.specs.Job.{job_in}
use Rattle.job.proofs.Rows.{limits_of_pass}
use Rattle.checker.proofs.PlanLaws.{checks_refused_job, checks_valid_job}
use Rattle.checker.proofs.check.Goals as goal

pub returns-in_err-validate : goal.returns-in_err-validate
returns-in_err-validate c =
    let e : c.from_residual.result ≡ Err c.in_err-validate.field-0.0 = search rules in
    checks_refused_job _ _ _ _ e (sym c.validate.ensures ∙ c.in_err-validate.was)

pub checked_plan-requires : goal.checked_plan-requires
checked_plan-requires c = limits_of_pass _ (sym c.validate.ensures ∙ c.in_ok-validate.was)

pub returns-in_err-checked : goal.returns-in_err-checked
returns-in_err-checked c =
    let e : c.from_residual-in_err-checked.result ≡ Err c.in_err-checked.field-0.0 = search rules in
    checks_valid_job (job_in c.args.job) _ _ (sym c.validate.ensures ∙ c.in_ok-validate.was)
    (e ∙ (rw c.in_err-checked.was at c.checked_plan.ensures.day))

pub returns : goal.returns
returns c =
    checks_valid_job (job_in c.args.job) _ _ (sym c.validate.ensures ∙ c.in_ok-validate.was)
    (rw c.in_ok-checked.was at c.checked_plan.ensures.day)
