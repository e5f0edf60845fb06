-- `checked_plan` meets its contract: the size, the actions, then the steps.
use Rattle.std.proofs.Common.{rules, Err, ◌≡◌, refl, sym, ◌∙◌}
use Rattle.job.specs.declared.refusal.Refusal.TheVariants.{PlanSize, UnknownAction}
use Rattle.job.specs.Job.{job_in}
use Rattle.job.proofs.Passed.{within_limits}
use Rattle.job.proofs.Rows.{fits_of_limits}
use Rattle.timeline.specs.Accepted.{step_rows, plan_rows}
use Rattle.checker.proofs.ChainLaws.{check_passes, check_fails, passed_test, passed_by, refused_by, value_by}
use Rattle.checker.proofs.PeakLaws.{small_peaks_of_pass}
use Rattle.checker.proofs.PlanLaws.{checks_refused, checks_decoded}
use Rattle.checker.proofs.StepLaws.{known_steps_last}
use Rattle.checker.proofs.checked_plan.Goals as goal

pub returns-in_err-size : goal.returns-in_err-size
unfolding plan_rows
returns-in_err-size c =
    let e : c.from_residual.result ≡ Err c.in_err-size.field-0.0 = search rules in
    checks_refused _ _ _ _ _ e (check_fails PlanSize _ _ _ (sym c.size.ensures ∙ c.in_err-size.was))

pub returns-in_err-known_actions : goal.returns-in_err-known_actions
unfolding plan_rows step_rows
returns-in_err-known_actions c =
    let e : c.from_residual-in_err-known_actions.result ≡ Err c.in_err-known_actions.field-0.0 = search rules in
    checks_refused _ _ _ _ _ e
    (check_passes PlanSize _ _ (sym c.size.ensures ∙ c.in_ok-size.was)
    ∙ check_fails UnknownAction _ _ _ (sym c.known_actions.ensures ∙ c.in_err-known_actions.was))

pub plan-plan-requires : goal.plan-plan-requires
plan-plan-requires c =
    record {
      fits = (fits_of_limits c.args.job c.requires, passed_test PlanSize _ (sym c.size.ensures ∙ c.in_ok-size.was));
      bytes_value = passed_test UnknownAction _ (sym c.known_actions.ensures ∙ c.in_ok-known_actions.was);
    }

pub check_steps-requires : goal.check_steps-requires
check_steps-requires c =
    let j = c.args.job in
    let e = c.plan-plan.ensures in
    let known = passed_test UnknownAction _ (sym c.known_actions.ensures ∙ c.in_ok-known_actions.was) in
    let lasting = known_steps_last (job_in j) c.args.bytes.now (within_limits (job_in j) c.requires) known in
    record { length_bound = (e.0, e.1, fits_of_limits j c.requires); plan_value = (rw e.2 known, rw e.2 lasting) }

pub returns-in_err-last : goal.returns-in_err-last
unfolding plan_rows
returns-in_err-last c =
    let e : c.from_residual-in_err-last.result ≡ Err c.in_err-last.field-0.0 = search rules in
    let steps = rw c.plan-plan.ensures.2 at (refused_by _ _ _ (sym c.check_steps.ensures ∙ c.in_err-last.was)) in
    checks_refused _ _ _ _ _ e (check_passes PlanSize _ _ (sym c.size.ensures ∙ c.in_ok-size.was) ∙ steps)

pub told-day-requires : goal.told-day-requires
told-day-requires c =
    let j = c.args.job in
    let e = c.plan-plan.ensures in
    let steps = passed_by _ _ _ (sym c.check_steps.ensures ∙ c.in_ok-last.was) in (
      e.0,
      e.1,
      fits_of_limits j c.requires,
      small_peaks_of_pass j c.plan-plan.result c.args.goal (within_limits (job_in j) c.requires) steps,
      sym (value_by _ _ _ (sym c.check_steps.ensures ∙ c.in_ok-last.was)),
    )

pub returns : goal.returns
unfolding plan_rows
returns c =
    let e = c.plan-plan.ensures in
    let steps = rw e.2 at (passed_by _ _ _ (sym c.check_steps.ensures ∙ c.in_ok-last.was)) in
    checks_decoded _ _ _ _ _ refl (record { few = e.0; counts = e.1; steps = e.2 })
    (check_passes PlanSize _ _ (sym c.size.ensures ∙ c.in_ok-size.was) ∙ steps) (rw e.2 at c.told-day.ensures)
