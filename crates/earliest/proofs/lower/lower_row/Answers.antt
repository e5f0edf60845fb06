-- `lower_row` meets its contract: the entries with the facts of the set below `q` are lowered.
use Rattle.earliest.proofs.Loops.{swept_on, swept_all}
use Rattle.earliest.proofs.Members.{row_step}
use Rattle.earliest.proofs.Unreachable.{row_unreachable}
use native.Mathlib.Omega.{arith}
use Rattle.earliest.proofs.lower.lower_row.Goals as goal

pub returns-then-time-eq-NONE : goal.returns-then-time-eq-NONE
returns-then-time-eq-NONE c =
    let at = c.args in (
      c.requires.0,
      row_unreachable at.facts at.p at.set at.time at.table.now
          c.if-time-eq-NONE.true,
    )

pub loop-q-preserved : goal.loop-q-preserved
loop-q-preserved c =
    let h = c.requires in
    let at = c.args in
    let q = c.loop-q.q in
    let xs = c.loop-q.table in
    let b = c.loop-q.changed in
    let lowers = c.lower-changed.ensures in
    let member = c.loop-q.invariant.1 (omega arith) in
    swept_on _ _ _ _ _ q c.next-q-in-loop-q.result xs _ b _ c.loop-q.invariant (omega arith) (omega arith) c.next-q-in-loop-q.ensures
    lowers.0
    (λ J able. row_step at.facts at.set at.time _ at.p q xs _ b _ member (omega arith) lowers.1 J able _)

pub returns : goal.returns
returns c =
    let h = c.requires in
    let inv = c.loop-q.invariant in (
      inv.2,
      λ J able same here offers. swept_all _ _ _ _ _ _ _ _ inv (omega arith) J (able, same, here, offers),
    )
