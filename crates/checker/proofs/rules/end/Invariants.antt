-- `end` meets its contract: the latest stop of the first i steps.
use mathlib.Core.Path.{◌≡◌}
use Rattle.lists.specs.Lists.{tabulate}
use Rattle.timeline.specs.Timeline.{end}
use Rattle.timeline.specs.Value.{step_at}
use Rattle.checker.proofs.rules.end.Given as goal

abbrev pub invariant-loop-step : goal.invariant-loop-step
invariant-loop-step l = (l.latest ≡ end (tabulate l.step-index (step_at l.fn.plan)))
