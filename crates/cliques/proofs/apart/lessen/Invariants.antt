-- `lessen` meets its contract: the set is taken away from the facts before the next one.
use mathlib.Core.Path.{◌≡◌}
use Rattle.cliques.specs.Cliques.{Lessened}
use Rattle.cliques.proofs.apart.lessen.Given as goal

abbrev pub invariant-loop-q : goal.invariant-loop-q
invariant-loop-q l =
    (l.q-iterator.set ≡ l.from) × Lessened l.q-iterator.from l.from l.away l.initial.sets l.sets
