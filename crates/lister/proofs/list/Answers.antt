-- `list` meets its contract: three refusals, and the plan at the place handed out.
use Rattle.std.proofs.Common.{rules, Err, ◌≡◌, refl, sym, ap, ◌∙◌}
use Rattle.job.proofs.Table.{value_given, no_value_given}
use Rattle.job.specs.declared.refusal.Refusal.TheVariants.{NoPlan}
use Rattle.job.specs.Job.{job_in}
use Rattle.solver.proofs.TaskDays.{whole_day_fits}
use Rattle.walker.proofs.WholeTasks.{whole_day_is_whole, page_of_whole_day}
use Rattle.lister.proofs.Handing.{lists_refused, lists_short, lists_none, whole_page, lists_answered}
use Rattle.lister.proofs.list.Goals as goal

pub returns-in_err-validate : goal.returns-in_err-validate
returns-in_err-validate c =
    let e : c.from_residual.result ≡ Err c.in_err-validate.field-0.0 = search rules in
    lists_refused (job_in c.args.job) c.args.place c.args.out.now _ _ e (sym c.validate.ensures ∙ c.in_err-validate.was)

pub returns-then-out-lt-BYTES : goal.returns-then-out-lt-BYTES
returns-then-out-lt-BYTES c =
    let passes = sym c.validate.ensures ∙ c.in_ok-validate.was in
    lists_short (job_in c.args.job) c.args.place c.args.out.now _ refl passes c.if-out-lt-BYTES.true

pub plan_at-requires : goal.plan_at-requires
plan_at-requires c =
    let passes = sym c.validate.ensures ∙ c.in_ok-validate.was in
    (passes, whole_day_fits c.args.job _ c.whole_day.ensures passes, whole_day_is_whole c.args.job _ c.whole_day.ensures)

pub returns-in_err-answer : goal.returns-in_err-answer
returns-in_err-answer c =
    let passes = sym c.validate.ensures ∙ c.in_ok-validate.was in
    let page = page_of_whole_day c.args.job _ c.whole_day.ensures c.args.place c.plan_at.result c.plan_at.ensures in
    let none = no_value_given c.plan_at.result NoPlan _ (sym c.ok_or.ensures.value ∙ c.in_err-answer.was) in
    let e : c.from_residual-in_err-answer.result ≡ Err c.in_err-answer.field-0.0 = search rules in
    lists_none (job_in c.args.job) c.args.place c.args.out.now passes c.if-out-lt-BYTES.false c.plan_at.result page
    none.0 _ (e ∙ ap Err (sym none.1))

pub hand_out-requires : goal.hand_out-requires
hand_out-requires c =
    let passes = sym c.validate.ensures ∙ c.in_ok-validate.was in
    let page = page_of_whole_day c.args.job _ c.whole_day.ensures c.args.place c.plan_at.result c.plan_at.ensures in
    let at = value_given c.plan_at.result NoPlan _ (sym c.ok_or.ensures.value ∙ c.in_ok-answer.was) in (
      whole_page (job_in c.args.job) c.args.place c.args.out.now passes c.if-out-lt-BYTES.false c.plan_at.result page _ at,
      c.if-out-lt-BYTES.false,
    )

pub returns : goal.returns
returns c =
    let passes = sym c.validate.ensures ∙ c.in_ok-validate.was in
    let page = page_of_whole_day c.args.job _ c.whole_day.ensures c.args.place c.plan_at.result c.plan_at.ensures in
    let at = value_given c.plan_at.result NoPlan _ (sym c.ok_or.ensures.value ∙ c.in_ok-answer.was) in
    lists_answered (job_in c.args.job) c.args.place c.args.out.now passes c.if-out-lt-BYTES.false c.plan_at.result page _ at
    _ _ c.hand_out.ensures
