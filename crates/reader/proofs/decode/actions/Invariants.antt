-- `actions`: the actions before place i stand at the front of the array.
use mathlib.Core.Path.{◌≡◌}
use mathlib.Core.List.{map}
use Rattle.lists.specs.Lists.{tabulate, filled}
use Rattle.job.specs.Job.{unused_action, action_value}
use Rattle.reader.specs.View.{action_at}
use Rattle.reader.proofs.decode.actions.Given as goal

abbrev pub invariant-loop-i : goal.invariant-loop-i
invariant-loop-i l =
    l.out ≡ filled 64 unused_action (map action_value (tabulate l.i (action_at l.bytes l.pools l.stores)))
