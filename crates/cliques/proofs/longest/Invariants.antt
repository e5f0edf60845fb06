-- `longest` meets its contract: the best fact so far is one of the set.
use Prim.Native.Nat.{◌<◌}
use mathlib.Core.Path.{◌≡◌}
use mathlib.Core.Bool.{true}
use Rattle.std.proofs.Common.{IfSome}
use Rattle.facts.specs.FactSet.{has}
use Rattle.cliques.proofs.longest.Given as goal

abbrev pub invariant-loop-q : goal.invariant-loop-q
invariant-loop-q l =
    (l.q-iterator.set ≡ l.set) × IfSome l.best (λ q. (q < 64) × (has l.set q ≡ true))
