-- `of_adders` meets its contract: the set is within that of each of the first i actions.
use Rattle.landmarks.specs.Tables.{ByAdders}
use Rattle.landmarks.proofs.marks.of_adders.Given as goal

abbrev pub invariant-loop-i : goal.invariant-loop-i
invariant-loop-i l = ByAdders l.sets l.i l.q l.all
