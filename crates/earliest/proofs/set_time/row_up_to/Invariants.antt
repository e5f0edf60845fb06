-- `row_up_to` meets its contract: the facts of the set below `low` are counted, and none is later than the limit.
use Rattle.std.proofs.Common.{suc, get_or}
use Rattle.pairs.specs.Pairs.{entry_of}
use Rattle.times.specs.Numbers.{none}
use Rattle.earliest.proofs.FactsLeft.{Left}
use Rattle.earliest.proofs.Latest.{Counted}
use Rattle.earliest.proofs.set_time.row_up_to.Given as goal

abbrev pub invariant-loop-low : goal.invariant-loop-low
invariant-loop-low l =
    Left l.set l.left l.low × Counted l.set (λ p. get_or l.table (entry_of p l.high) none) (suc l.high) l.low l.latest

abbrev pub decreases-loop-low : goal.decreases-loop-low
decreases-loop-low l = l.left
