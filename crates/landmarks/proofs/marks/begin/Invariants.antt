-- `begin` meets its contract: the sets of the first q facts are put.
use Rattle.landmarks.specs.Tables.{Begun}
use Rattle.landmarks.proofs.marks.begin.Given as goal

abbrev pub invariant-loop-q : goal.invariant-loop-q
invariant-loop-q l = Begun l.q l.start l.all l.initial.sets l.sets
