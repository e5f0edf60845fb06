-- `least` meets its contract: the number is at most the minutes of each of the first i actions that adds q.
use Rattle.cliques.specs.Cliques.{LeastTo}
use Rattle.cliques.proofs.least.least.Given as goal

abbrev pub invariant-loop-i : goal.invariant-loop-i
invariant-loop-i l = LeastTo l.sets l.numbers l.i l.q l.best
