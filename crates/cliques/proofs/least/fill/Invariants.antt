-- `fill` meets its contract: the minutes of the first q facts are put.
use Rattle.cliques.specs.Cliques.{LeastPut}
use Rattle.cliques.proofs.least.fill.Given as goal

abbrev pub invariant-loop-q : goal.invariant-loop-q
invariant-loop-q l = LeastPut l.sets l.actions l.q l.initial.numbers l.numbers
