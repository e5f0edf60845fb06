-- `exceeds` meets its contract: none of the first k limits is exceeded.
use mathlib.Core.Path.{◌≡◌}
use mathlib.Core.Bool.{false}
use Rattle.states.specs.Amounts.{exceeds}
use Rattle.states.proofs.amounts.exceeds.Given as goal

abbrev pub invariant-loop-k : goal.invariant-loop-k
invariant-loop-k l = exceeds l.numbers l.at l.sums l.limits l.k ≡ false
