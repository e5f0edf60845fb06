-- `clashes_earlier` meets its contract: no step before place j clashes.
use mathlib.Core.Path.{◌≡◌}
use mathlib.Core.Bool.{false}
use Rattle.lists.specs.Lists.{tabulate, any}
use Rattle.timeline.specs.Accepted.{clashing}
use Rattle.timeline.specs.Value.{step_at}
use Rattle.checker.proofs.rules.clashes_earlier.Given as goal

abbrev pub invariant-loop-other : goal.invariant-loop-other
invariant-loop-other l = (any (λ x. clashing x (step_at l.fn.plan l.i)) (tabulate l.other-index (step_at l.fn.plan)) ≡ false)
