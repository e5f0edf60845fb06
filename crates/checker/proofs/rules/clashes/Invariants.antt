-- `clashes` meets its contract: no two of the first i steps clash.
use mathlib.Core.Path.{◌≡◌}
use mathlib.Core.Bool.{false}
use Rattle.lists.specs.Lists.{tabulate}
use Rattle.timeline.specs.Step.{any_pair}
use Rattle.timeline.specs.Accepted.{clashing}
use Rattle.timeline.specs.Value.{step_at}
use Rattle.checker.proofs.rules.clashes.Given as goal

abbrev pub invariant-loop-i : goal.invariant-loop-i
invariant-loop-i l = (any_pair clashing (tabulate l.i (step_at l.plan)) ≡ false)
