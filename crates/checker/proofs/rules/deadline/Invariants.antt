-- `deadline` meets its contract: none of the first i steps stops late.
use mathlib.Core.Path.{◌≡◌}
use mathlib.Core.Bool.{false}
use Rattle.lists.specs.Lists.{tabulate, any}
use Rattle.job.specs.Valid.{over}
use Rattle.timeline.specs.Value.{step_at}
use Rattle.checker.proofs.rules.deadline.Given as goal

abbrev pub invariant-loop-step : goal.invariant-loop-step
invariant-loop-step l = (any (λ x. over l.limit x.stop) (tabulate l.step-index (step_at l.fn.plan)) ≡ false)
