-- `as_plan` meets its contract: the answer is made of what the checker says of the bytes.
use Rattle.std.proofs.Common.{sym, ◌∙◌}
use Rattle.job.specs.Job.{job_in}
use Rattle.leaf.proofs.Checks.{answers_refused, answers_late, answers_plan, front_whole}
use Rattle.leaf.proofs.as_plan.Goals as goal

pub slice_bounds-check_within-end : goal.slice_bounds-check_within-end
slice_bounds-check_within-end c = front_whole (job_in c.args.job) c.args.steps _ c.write_plan.ensures

pub returns-in_err-day : goal.returns-in_err-day
returns-in_err-day c =
    rw c.from_residual.ensures
    (answers_refused (job_in c.args.job) c.args.goal c.args.horizon c.args.steps _ _ c.write_plan.ensures
    c.check_within.ensures (sym c.ok.ensures.value ∙ c.in_err-day.was))

pub returns-then-from-day : goal.returns-then-from-day
returns-then-from-day c =
    answers_late (job_in c.args.job) c.args.goal c.args.horizon c.args.steps _ _ c.write_plan.ensures
    c.check_within.ensures _ (sym c.ok.ensures.value ∙ c.in_ok-day.was) (rw c.from.ensures at c.if-from-day.true)

pub returns : goal.returns
returns c =
    answers_plan (job_in c.args.job) c.args.goal c.args.horizon c.args.steps _ _ c.write_plan.ensures
    c.check_within.ensures _ (sym c.ok.ensures.value ∙ c.in_ok-day.was) (rw c.from.ensures at c.if-from-day.false)
