-- `beside` meets its contract: of the first j actions, those that add a fact outside the set never overlap action i.
use Rattle.cliques.specs.Cliques.{Outside}
use Rattle.cliques.proofs.apart.beside.Given as goal

abbrev pub invariant-loop-j : goal.invariant-loop-j
invariant-loop-j l = Outside l.sets l.numbers l.times l.frame l.i l.j l.all
