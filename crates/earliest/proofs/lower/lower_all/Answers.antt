-- `lower_all` meets its contract: the entries of the facts of the set below `p` are lowered.
use Rattle.earliest.proofs.Loops.{swept_on, swept_all}
use Rattle.earliest.proofs.Members.{all_step}
use Rattle.earliest.proofs.Unreachable.{all_unreachable}
use native.Mathlib.Omega.{arith}
use Rattle.earliest.proofs.lower.lower_all.Goals as goal

pub returns-then-time-eq-NONE : goal.returns-then-time-eq-NONE
returns-then-time-eq-NONE c =
    let at = c.args in (
      c.requires.0,
      all_unreachable at.facts at.set at.other at.time at.table.now
          c.if-time-eq-NONE.true,
    )

pub loop-p-preserved : goal.loop-p-preserved
loop-p-preserved c =
    let h = c.requires in
    let at = c.args in
    let p = c.loop-p.p in
    let xs = c.loop-p.table in
    let b = c.loop-p.changed in
    let lowers = c.lower_row-changed.ensures in
    let member = c.loop-p.invariant.1 (omega arith) in
    swept_on _ _ _ _ _ p c.next-p-in-loop-p.result xs _ b _ c.loop-p.invariant (omega arith) (omega arith) c.next-p-in-loop-p.ensures
    lowers.0
    (λ J able. all_step at.facts at.set at.time _ at.other p xs _ b _ member (omega arith)
    lowers.1 J able _)

pub returns : goal.returns
returns c =
    let h = c.requires in
    let inv = c.loop-p.invariant in (
      inv.2,
      λ J able same offers. swept_all _ _ _ _ _ _ _ _ inv (omega arith) J (able, same, offers),
    )
