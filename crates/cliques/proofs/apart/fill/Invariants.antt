-- `fill` meets its contract: of the facts apart from a fact, those that the first i actions bar are gone.
use Rattle.landmarks.specs.Tables.{KeptBefore}
use Rattle.cliques.specs.Cliques.{ApartTo}
use Rattle.cliques.proofs.apart.fill.Given as goal

abbrev pub invariant-loop-i : goal.invariant-loop-i
invariant-loop-i l = KeptBefore 320 384 l.initial.sets l.sets × ApartTo l.sets l.numbers l.times l.frame l.i
