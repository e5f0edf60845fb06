-- `check_order` meets its contract: the first of its tests that fails, or the end.
use Rattle.std.proofs.Common.{rules, Ok, ap, sym, ◌∙◌, []}
use Rattle.job.specs.declared.refusal.Refusal.TheVariants.{UnknownAction, StepOrder, AfterDeadline}
use Rattle.job.proofs.Table.{first_next, first_none}
use Rattle.checker.proofs.ChainLaws.{check_passes, check_fails}
use Rattle.checker.proofs.check_order.Goals as goal

pub returns-in_err-order : goal.returns-in_err-order
returns-in_err-order c =
    rw (
      first_next UnknownAction _ _ c.requires.1,
      check_fails StepOrder _ _ _ (sym c.order.ensures ∙ c.in_err-order.was),
    ) (search rules)

pub returns-in_err-deadline : goal.returns-in_err-deadline
returns-in_err-deadline c =
    rw (
      first_next UnknownAction _ _ c.requires.1,
      check_passes StepOrder _ _ (sym c.order.ensures ∙ c.in_ok-order.was),
      check_fails AfterDeadline _ _ _ (sym c.deadline.ensures ∙ c.in_err-deadline.was),
    ) (search rules)

pub returns : goal.returns
returns c =
    rw (
      first_next UnknownAction _ _ c.requires.1,
      check_passes StepOrder _ _ (sym c.order.ensures ∙ c.in_ok-order.was),
      check_passes AfterDeadline _ [] (sym c.deadline.ensures ∙ c.in_ok-deadline.was),
      first_none,
    ) (ap Ok c.end.ensures)
