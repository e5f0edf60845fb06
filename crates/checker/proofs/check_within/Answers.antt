-- `check_within` meets its contract: the limits of the job, the goal, then the plan.
use Rattle.std.proofs.Common.{rules, Err, ◌≡◌, sym, ◌∙◌}
use Rattle.job.specs.declared.refusal.Refusal.TheVariants.{ForeignAskedFact}
use Rattle.job.specs.Job.{job_in}
use Rattle.job.specs.Valid.{limit_rows}
use Rattle.job.proofs.Table.{first_here, first_next, first_append_pass, first_append_refused}
use Rattle.checker.specs.Check.{check_within}
use Rattle.checker.proofs.check_within.Goals as goal

pub returns-in_err-validate_limits : goal.returns-in_err-validate_limits
unfolding check_within
returns-in_err-validate_limits c =
    rw (first_append_refused (limit_rows (job_in c.args.job)) _ _
    (sym c.validate_limits.ensures ∙ c.in_err-validate_limits.was)) (search rules)

pub returns-then-foreign : goal.returns-then-foreign
unfolding check_within
returns-then-foreign c =
    rw (
      first_append_pass (limit_rows (job_in c.args.job)) _ (sym c.validate_limits.ensures ∙ c.in_ok-validate_limits.was),
      first_here ForeignAskedFact _ _ (sym c.foreign.ensures.0 ∙ c.if-foreign.true),
    )

pub checked_plan-requires : goal.checked_plan-requires
checked_plan-requires c = sym c.validate_limits.ensures ∙ c.in_ok-validate_limits.was

pub returns-in_err-checked : goal.returns-in_err-checked
unfolding check_within
returns-in_err-checked c =
    let e : c.from_residual-in_err-checked.result ≡ Err c.in_err-checked.field-0.0 = search rules in
    rw (
      first_append_pass (limit_rows (job_in c.args.job)) _ (sym c.validate_limits.ensures ∙ c.in_ok-validate_limits.was),
      first_next ForeignAskedFact _ _ (sym c.foreign.ensures.0 ∙ c.if-foreign.false),
    )
    (e ∙ (rw c.in_err-checked.was at c.checked_plan.ensures.day))

pub returns : goal.returns
unfolding check_within
returns c =
    rw (
      first_append_pass (limit_rows (job_in c.args.job)) _ (sym c.validate_limits.ensures ∙ c.in_ok-validate_limits.was),
      first_next ForeignAskedFact _ _ (sym c.foreign.ensures.0 ∙ c.if-foreign.false),
    )
    (rw c.in_ok-checked.was at c.checked_plan.ensures.day)
