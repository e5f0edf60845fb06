-- `check_shape` meets its contract: the size, the actions, then the order of the steps.
use Rattle.std.proofs.Common.{rules, Ok, ap, sym, ◌∙◌}
use Rattle.job.specs.declared.refusal.Refusal.TheVariants.{PlanSize, UnknownAction}
use Rattle.job.specs.Job.{job_in}
use Rattle.job.proofs.Passed.{passed}
use Rattle.job.proofs.Rows.{fits_of_pass}
use Rattle.timeline.specs.Accepted.{shape_rows}
use Rattle.checker.specs.Check.{shape_day}
use Rattle.checker.proofs.ChainLaws.{check_passes, check_fails, passed_test, passed_by, refused_by, value_by}
use Rattle.checker.proofs.PeakLaws.{small_peaks_of_steps}
use Rattle.checker.proofs.check_shape.Goals as goal

pub returns-in_err-size : goal.returns-in_err-size
unfolding shape_day shape_rows
returns-in_err-size c = rw (check_fails PlanSize _ _ _ (sym c.size.ensures ∙ c.in_err-size.was)) (search rules)

pub returns-in_err-known_actions : goal.returns-in_err-known_actions
unfolding shape_day shape_rows
returns-in_err-known_actions c =
    rw (
      check_passes PlanSize _ _ (sym c.size.ensures ∙ c.in_ok-size.was),
      check_fails UnknownAction _ _ _ (sym c.known_actions.ensures ∙ c.in_err-known_actions.was),
    ) (search rules)

pub plan-plan-requires : goal.plan-plan-requires
plan-plan-requires c =
    record {
      fits = (fits_of_pass c.args.job c.requires, passed_test PlanSize _ (sym c.size.ensures ∙ c.in_ok-size.was));
      bytes_value = passed_test UnknownAction _ (sym c.known_actions.ensures ∙ c.in_ok-known_actions.was);
    }

pub check_order-requires : goal.check_order-requires
check_order-requires c =
    let e = c.plan-plan.ensures in
    (e.0, rw e.2 (passed_test UnknownAction _ (sym c.known_actions.ensures ∙ c.in_ok-known_actions.was)))

pub returns-in_err-last : goal.returns-in_err-last
unfolding shape_day shape_rows
returns-in_err-last c =
    let order = rw c.plan-plan.ensures.2 at (refused_by _ _ _ (sym c.check_order.ensures ∙ c.in_err-last.was)) in
    rw (check_passes PlanSize _ _ (sym c.size.ensures ∙ c.in_ok-size.was), order) (search rules)

pub told-requires : goal.told-requires
told-requires c =
    let j = c.args.job in
    let e = c.plan-plan.ensures in
    let known = passed_test UnknownAction _ (sym c.known_actions.ensures ∙ c.in_ok-known_actions.was) in (
      e.0,
      e.1,
      fits_of_pass j c.requires,
      small_peaks_of_steps j c.args.bytes.now c.plan-plan.result (passed (job_in j) c.requires) known e.0 e.2,
      sym (value_by _ _ _ (sym c.check_order.ensures ∙ c.in_ok-last.was)),
    )

pub returns : goal.returns
unfolding shape_day shape_rows
returns c =
    let order = rw c.plan-plan.ensures.2 at (passed_by _ _ _ (sym c.check_order.ensures ∙ c.in_ok-last.was)) in
    rw (check_passes PlanSize _ _ (sym c.size.ensures ∙ c.in_ok-size.was), order)
    (ap Ok (rw c.plan-plan.ensures.2 at c.told.ensures))
