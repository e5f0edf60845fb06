-- `search` meets its contract: entries before those of the facts stay.
use Rattle.landmarks.specs.Tables.{KeptBefore}
use Rattle.landmarks.proofs.marks.search.Given as goal

abbrev pub invariant-loop : goal.invariant-loop
invariant-loop l = KeptBefore 256 384 l.initial.sets l.sets
