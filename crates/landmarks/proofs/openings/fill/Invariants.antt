-- `fill` meets its contract: the openings of the first pools are put.
use Rattle.landmarks.specs.Openings.{OpeningsPut}
use Rattle.landmarks.proofs.openings.fill.Given as goal

abbrev pub invariant-loop-pool : goal.invariant-loop-pool
invariant-loop-pool l = OpeningsPut l.sets l.times l.frame l.pool l.initial.numbers l.numbers
