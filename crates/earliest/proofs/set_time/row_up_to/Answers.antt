-- `row_up_to` meets its contract: the facts of the set below `low` are counted, and none is later than the limit.
use Rattle.std.proofs.Common.{arith}
use Rattle.earliest.proofs.Entries.{entry_read}
use Rattle.earliest.proofs.FactsLeft.{all_left, fewer_left, next_of_set, left_on}
use Rattle.earliest.proofs.Latest.{counted_at_first, counted_on, counted_late, counted_all, max_answered}
use Rattle.earliest.proofs.set_time.row_up_to.Goals as goal

pub loop-low-init : goal.loop-low-init
loop-low-init c = (all_left _ _ c.next-low.ensures, counted_at_first _ _ _ _ c.next-low.ensures)

pub returns-then-limit-time : goal.returns-then-limit-time
returns-then-limit-time c =
    let h = c.requires in
    let value = entry_read c.args.table.now c.entry-first.result c.loop-low.low c.args.high h.0
    c.entry-first.ensures.0 (omega arith) h.1 in
    counted_late _ _ _ _ c.loop-low.low _ c.loop-low.invariant.1 (omega arith) (omega arith)
    (rw value at c.if-limit-time.true)

pub loop-low-smaller : goal.loop-low-smaller
loop-low-smaller c =
    let h = c.requires in
    fewer_left _ _ _ c.loop-low.invariant.0 (omega arith) _ _ c.single.ensures c.difference-left.ensures.0

pub loop-low-preserved : goal.loop-low-preserved
loop-low-preserved c =
    let h = c.requires in
    let inv = c.loop-low.invariant in
    let value = entry_read c.args.table.now c.entry-first.result c.loop-low.low c.args.high h.0
    c.entry-first.ensures.0 (omega arith) h.1 in
    let next = next_of_set _ _ _ inv.0 (omega arith) _ _ c.single.ensures c.difference-left.ensures.0 _ c.next-low-in-loop-low.ensures in (
      left_on _ _ _ inv.0 (omega arith) _ _ c.single.ensures c.difference-left.ensures.0 _ c.next-low-in-loop-low.ensures,
      counted_on _ _ _ c.loop-low.low c.loop-low.latest _ c.max-latest.result c.next-low-in-loop-low.result inv.1 (omega arith)
          (omega arith) value (max_answered _ _ _ c.max-latest.ensures) next,
    )

pub returns : goal.returns
returns c = counted_all _ _ _ _ _ c.loop-low.invariant.1 (omega arith)
