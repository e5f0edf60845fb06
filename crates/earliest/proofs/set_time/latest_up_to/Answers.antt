-- `latest_up_to` meets its contract: the rows of the facts of the set below `high` are counted, and none is later than
-- the limit.
use Rattle.std.proofs.Common.{arith}
use Rattle.earliest.proofs.FactsLeft.{all_left, fewer_left, next_of_set, left_on}
use Rattle.earliest.proofs.Latest.{counted_at_first, counted_on, counted_late, counted_all, max_answered}
use Rattle.earliest.proofs.set_time.latest_up_to.Goals as goal

pub loop-high-init : goal.loop-high-init
loop-high-init c = (all_left _ _ c.next-high.ensures, counted_at_first _ _ _ _ c.next-high.ensures)

pub returns-in_err-time : goal.returns-in_err-time
returns-in_err-time c =
    let h = c.requires in
    rw c.from_residual.ensures
    (counted_late _ _ _ _ c.loop-high.high _ c.loop-high.invariant.1 (omega arith) (omega arith) c.in_err-time.ensures)

pub loop-high-smaller : goal.loop-high-smaller
loop-high-smaller c =
    let h = c.requires in
    fewer_left _ _ _ c.loop-high.invariant.0 (omega arith) _ _ c.single.ensures c.difference-left.ensures.0

pub loop-high-preserved : goal.loop-high-preserved
loop-high-preserved c =
    let h = c.requires in
    let inv = c.loop-high.invariant in
    let next = next_of_set _ _ _ inv.0 (omega arith) _ _ c.single.ensures c.difference-left.ensures.0 _ c.next-high-in-loop-high.ensures in (
      left_on _ _ _ inv.0 (omega arith) _ _ c.single.ensures c.difference-left.ensures.0 _ c.next-high-in-loop-high.ensures,
      counted_on _ _ _ c.loop-high.high c.loop-high.latest _ c.max-latest.result c.next-high-in-loop-high.result inv.1 (omega arith)
          (omega arith) c.in_ok-time.ensures (max_answered _ _ _ c.max-latest.ensures) next,
    )

pub returns : goal.returns
returns c = counted_all _ _ _ _ _ c.loop-high.invariant.1 (omega arith)
