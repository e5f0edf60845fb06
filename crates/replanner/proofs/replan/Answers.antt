-- `replan` meets its contract: four refusals in their turn, and the answer with the kept steps handed out.
use Rattle.std.proofs.Common.{rules, Err, ◌≡◌, refl, sym, ◌∙◌}
use Rattle.job.specs.Job.{job_in}
use Rattle.timeline.proofs.DayLaws.{verdict_of_day}
use Rattle.replanner.proofs.KeptSteps.{small_starts, kept_fit, kept_in_order}
use Rattle.replanner.proofs.Replanning.{replans_refused, replans_foreign, replans_plan_refused}
use Rattle.replanner.proofs.Replanning.{replans_short, replans_answered, replanned_with, whole_when_replanned}
use Rattle.job.proofs.Rows.{limits_of_pass}
use Rattle.replanner.proofs.replan.Goals as goal

pub returns-in_err-validate : goal.returns-in_err-validate
returns-in_err-validate c =
    let e : c.from_residual.result ≡ Err c.in_err-validate.field-0.0 = search rules in
    replans_refused (job_in c.args.job) c.args.current.now c.args.minute c.args.goal c.args.out.now _ _ e (sym c.validate.ensures ∙ c.in_err-validate.was)

pub returns-then-foreign : goal.returns-then-foreign
returns-then-foreign c =
    replans_foreign (job_in c.args.job) c.args.current.now c.args.minute c.args.goal c.args.out.now (sym c.validate.ensures ∙ c.in_ok-validate.was) _ refl (sym c.foreign.ensures.0 ∙ c.if-foreign.true)

pub checked_plan-requires : goal.checked_plan-requires
checked_plan-requires c =
    limits_of_pass _ (sym c.validate.ensures ∙ c.in_ok-validate.was)

pub returns-in_err-checked : goal.returns-in_err-checked
returns-in_err-checked c =
    let e : c.from_residual-in_err-checked.result ≡ Err c.in_err-checked.field-0.0 = search rules in
    replans_plan_refused (job_in c.args.job) c.args.current.now c.args.minute c.args.goal c.args.out.now (sym c.validate.ensures ∙ c.in_ok-validate.was) (sym c.foreign.ensures.0 ∙ c.if-foreign.false) _ _ e (sym (verdict_of_day _ _ _ _ (rw c.in_err-checked.was at c.checked_plan.ensures.day)))

pub returns-then-out-lt-BYTES : goal.returns-then-out-lt-BYTES
returns-then-out-lt-BYTES c =
    replans_short (job_in c.args.job) c.args.current.now c.args.minute c.args.goal c.args.out.now (sym c.validate.ensures ∙ c.in_ok-validate.was) (sym c.foreign.ensures.0 ∙ c.if-foreign.false) (sym (verdict_of_day _ _ _ _ (rw c.in_ok-checked.was at c.checked_plan.ensures.day))) _ refl c.if-out-lt-BYTES.true

pub kept_steps-kept-requires : goal.kept_steps-kept-requires
kept_steps-kept-requires c =
    let valid = sym c.validate.ensures ∙ c.in_ok-validate.was in
    let runs = sym (verdict_of_day _ _ _ _ (rw c.in_ok-checked.was at c.checked_plan.ensures.day)) in
    let decodes = c.checked_plan.ensures.plan _ c.in_ok-checked.was in
    (decodes.few, small_starts c.args.job c.args.current.now _ decodes valid runs)

pub with_kept-answer-requires : goal.with_kept-answer-requires
with_kept-answer-requires c =
    let valid = sym c.validate.ensures ∙ c.in_ok-validate.was in
    let runs = sym (verdict_of_day _ _ _ _ (rw c.in_ok-checked.was at c.checked_plan.ensures.day)) in
    let decodes = c.checked_plan.ensures.plan _ c.in_ok-checked.was in
    (valid, sym c.foreign.ensures.0 ∙ c.if-foreign.false, kept_fit c.args.job c.args.current.now _ decodes valid runs c.args.minute _ c.kept_steps-kept.ensures)

pub hand_out-requires : goal.hand_out-requires
hand_out-requires c =
    (whole_when_replanned (job_in c.args.job) c.args.goal c.args.minute _ c.with_kept-answer.result c.with_kept-answer.ensures, c.if-out-lt-BYTES.false)

pub returns : goal.returns
returns c =
    let valid = sym c.validate.ensures ∙ c.in_ok-validate.was in
    let runs = sym (verdict_of_day _ _ _ _ (rw c.in_ok-checked.was at c.checked_plan.ensures.day)) in
    let decodes = c.checked_plan.ensures.plan _ c.in_ok-checked.was in
    let same = kept_in_order c.args.job c.args.current.now _ decodes valid runs c.args.minute _ c.kept_steps-kept.ensures in
    replans_answered (job_in c.args.job) c.args.current.now c.args.minute c.args.goal c.args.out.now valid (sym c.foreign.ensures.0 ∙ c.if-foreign.false) runs c.if-out-lt-BYTES.false c.with_kept-answer.result (replanned_with (job_in c.args.job) c.args.goal c.args.minute c.with_kept-answer.result _ _ same c.with_kept-answer.ensures) _ _ c.hand_out.ensures
