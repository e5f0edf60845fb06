-- `adds_of` meets its contract: what the actions before the next one add is found.
use mathlib.Core.Path.{◌≡◌}
use Rattle.pruning.specs.Carried.{AddsOf}
use Rattle.pruning.proofs.carried.adds_of.Given as goal

abbrev pub invariant-loop-k : goal.invariant-loop-k
invariant-loop-k l = (l.k-iterator.set ≡ l.left) × AddsOf l.sets l.left l.k-iterator.from l.set
