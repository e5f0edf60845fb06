-- `effects_at` meets its contract: the effects of the first i steps.
use mathlib.Core.Path.{◌≡◌}
use Rattle.lists.specs.Lists.{tabulate}
use Rattle.timeline.specs.Timeline.{deleted_at, added_at}
use Rattle.timeline.specs.Value.{step_at}
use Rattle.checker.proofs.clock.effects_at.Given as goal

abbrev pub invariant-loop-step : goal.invariant-loop-step
invariant-loop-step l =
    (l.deletes ≡ deleted_at l.minute (tabulate l.step-index (step_at l.fn.plan)))
    × (l.adds ≡ added_at l.minute (tabulate l.step-index (step_at l.fn.plan)))
