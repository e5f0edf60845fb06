-- `at_hand` meets its contract: what the first i steps add that still run is there.
use mathlib.Core.Path.{◌≡◌}
use mathlib.Core.Bool.{cond}
use Rattle.lists.specs.Lists.{tabulate}
use Rattle.timeline.specs.Step.{union_of}
use Rattle.timeline.specs.Value.{step_at}
use Rattle.begun.specs.RestOfDay.{runs_in}
use Rattle.begun.proofs.at_hand.Given as goal

abbrev pub invariant-loop-step : goal.invariant-loop-step
invariant-loop-step l =
    l.added ≡ union_of (λ x. cond (runs_in l.minute x) x.action.adds 0) (tabulate l.step-index (step_at l.fn.plan))
