-- `search` meets its contract: entries before the row stay.
use Rattle.landmarks.specs.Tables.{KeptBefore, row_at}
use Rattle.landmarks.proofs.shares.search.Given as goal

abbrev pub invariant-loop-i : goal.invariant-loop-i
invariant-loop-i l = KeptBefore (row_at l.row) 1220 l.initial.numbers l.numbers
