-- `rest_actions` meets its contract: what is left of the first i steps is there.
use Prim.Native.Nat.{◌≤◌}
use mathlib.Core.Path.{◌≡◌}
use lib.ListN.{length}
use Rattle.lists.specs.Lists.{tabulate}
use Rattle.timeline.specs.Value.{step_at}
use Rattle.earliest.specs.Extra.{extra_actions}
use Rattle.begun.proofs.RestActions.{rests_of}
use Rattle.begun.proofs.rest_actions.Given as goal

abbrev pub invariant-loop-step : goal.invariant-loop-step
invariant-loop-step l =
    (l.extra.count ≤ l.step-index) × (length l.extra.actions ≡ 32)
    × (extra_actions l.fn.plan.counts l.extra ≡ rests_of l.minute (tabulate l.step-index (step_at l.fn.plan)))
