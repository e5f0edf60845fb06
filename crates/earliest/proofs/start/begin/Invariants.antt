-- `begin` meets its contract: the entries below `entry` are done.
use Rattle.earliest.specs.Start.{StartTimes}
use Rattle.earliest.proofs.start.begin.Given as goal

abbrev pub invariant-loop-entry : goal.invariant-loop-entry
invariant-loop-entry l = StartTimes l.start l.entry l.table
