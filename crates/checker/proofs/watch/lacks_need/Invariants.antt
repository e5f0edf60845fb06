-- `lacks_need` meets its contract: none of the first i steps lacks a need.
use mathlib.Core.Path.{◌≡◌}
use mathlib.Core.Bool.{false}
use Rattle.lists.specs.Lists.{tabulate, any}
use Rattle.timeline.specs.Value.{step_at}
use Rattle.checker.specs.Watch.{lacks_at}
use Rattle.checker.proofs.watch.lacks_need.Given as goal

abbrev pub invariant-loop-step : goal.invariant-loop-step
invariant-loop-step l = (any (lacks_at l.clock) (tabulate l.step-index (step_at l.fn.plan)) ≡ false)
