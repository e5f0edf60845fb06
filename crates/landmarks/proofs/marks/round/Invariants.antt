-- `round` meets its contract: entries before those of the facts stay.
use Rattle.landmarks.specs.Tables.{KeptBefore}
use Rattle.landmarks.proofs.marks.round.Given as goal

abbrev pub invariant-loop-q : goal.invariant-loop-q
invariant-loop-q l = KeptBefore 256 384 l.initial.sets l.sets
