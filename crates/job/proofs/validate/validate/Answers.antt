-- `validate` meets its contract: the limits, then test 26.
use Rattle.std.proofs.Common.{rules, Err, ◌≡◌, sym, ◌∙◌, []}
use Rattle.job.specs.declared.refusal.Refusal.TheVariants.{UseBeyond}
use Rattle.job.specs.Job.{job_in}
use Rattle.job.specs.Refusal.{first}
use Rattle.job.specs.Valid.{limit_rows, job_rows}
use Rattle.job.proofs.Rows.{fits_of_limits}
use Rattle.job.proofs.Table.{first_append_pass, first_append_refused, first_here, first_next, first_none}
use Rattle.job.proofs.validate.validate.Goals as goal

pub returns-in_err-validate_limits : goal.returns-in_err-validate_limits
unfolding job_rows
returns-in_err-validate_limits c =
    let limits : first (job_rows (job_in c.args.job)) ≡ Err c.in_err-validate_limits.field-0.0
    = first_append_refused (limit_rows (job_in c.args.job)) _ _ (sym c.validate_limits.ensures ∙ c.in_err-validate_limits.was) in
    search rules

pub any_beyond-requires : goal.any_beyond-requires
any_beyond-requires c = fits_of_limits c.args.job (sym c.validate_limits.ensures ∙ c.in_ok-validate_limits.was)

pub returns-then-any_beyond : goal.returns-then-any_beyond
unfolding job_rows
returns-then-any_beyond c =
    sym (first_append_pass (limit_rows (job_in c.args.job)) _ (sym c.validate_limits.ensures ∙ c.in_ok-validate_limits.was)
    ∙ first_here UseBeyond _ [] (sym c.any_beyond.ensures ∙ c.if-any_beyond.true))

pub returns : goal.returns
unfolding job_rows
returns c =
    sym (first_append_pass (limit_rows (job_in c.args.job)) _ (sym c.validate_limits.ensures ∙ c.in_ok-validate_limits.was)
    ∙ first_next UseBeyond _ [] (sym c.any_beyond.ensures ∙ c.if-any_beyond.false) ∙ first_none)
