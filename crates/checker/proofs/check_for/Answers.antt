-- `check_for` meets its contract: the tests of the job, then as within its limits.
use Rattle.std.proofs.Common.{rules, sym, ◌∙◌}
use Rattle.job.specs.Job.{job_in}
use Rattle.job.specs.Valid.{job_rows, limit_rows}
use Rattle.job.proofs.Rows.{limits_of_pass}
use Rattle.job.proofs.Table.{first_append_pass, first_append_refused}
use Rattle.checker.specs.Check.{check_for, check_within}
use Rattle.checker.proofs.check_for.Goals as goal

pub returns-in_err-validate : goal.returns-in_err-validate
unfolding check_for
returns-in_err-validate c =
    rw (first_append_refused (job_rows (job_in c.args.job)) _ _ (sym c.validate.ensures ∙ c.in_err-validate.was))
    (search rules)

pub returns : goal.returns
unfolding check_for check_within
returns c =
    let J = job_in c.args.job in
    let valid = sym c.validate.ensures ∙ c.in_ok-validate.was in
    rw (first_append_pass (job_rows J) _ valid)
    (rw (first_append_pass (limit_rows J) _ (limits_of_pass J valid)) at c.check_within.ensures)
