-- `pick` meets its contract: what is kept is a member.
use Prim.Native.Nat.{◌<◌}
use mathlib.Core.Path.{◌≡◌}
use mathlib.Core.Bool.{true}
use Rattle.facts.specs.FactSet.{has}
use Rattle.states.proofs.rules.pick.Given as goal

abbrev pub invariant-loop-k : goal.invariant-loop-k
invariant-loop-k l = (l.k-iterator.set ≡ l.left) × (l.longest < 64) × (has l.left l.longest ≡ true)
