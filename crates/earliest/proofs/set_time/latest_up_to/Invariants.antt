-- `latest_up_to` meets its contract: the rows of the facts of the set below `high` are counted, and none is later than
-- the limit.
use Rattle.std.proofs.Common.{suc}
use Rattle.earliest.specs.Numbers.{row_number}
use Rattle.earliest.proofs.FactsLeft.{Left}
use Rattle.earliest.proofs.Latest.{Counted}
use Rattle.earliest.proofs.set_time.latest_up_to.Given as goal

abbrev pub invariant-loop-high : goal.invariant-loop-high
invariant-loop-high l =
    Left l.set l.left l.high × Counted l.set (λ q. row_number l.table l.set q (suc q)) l.facts l.high l.latest

abbrev pub decreases-loop-high : goal.decreases-loop-high
decreases-loop-high l = l.left
