-- `order` meets its contract: the first i steps are in order.
use mathlib.Core.Path.{◌≡◌}
use mathlib.Core.Bool.{true}
use Rattle.lists.specs.Lists.{tabulate}
use Rattle.timeline.specs.Step.{strictly_rising}
use Rattle.timeline.specs.Value.{step_at}
use Rattle.checker.proofs.rules.order.Given as goal

abbrev pub invariant-loop-i : goal.invariant-loop-i
invariant-loop-i l =
    (strictly_rising (tabulate l.i (step_at l.plan)) ≡ true)
