-- `begin` meets its contract: the entries below `entry` are done.
use Rattle.earliest.proofs.StartLaws.{start_at_first, start_left, start_written}
use native.Mathlib.Omega.{arith}
use Rattle.earliest.proofs.start.begin.Goals as goal
use Rattle.earliest.proofs.start.begin.Goals.{then-both_in, else-both_in}

pub loop-entry-init : goal.loop-entry-init
loop-entry-init c = start_at_first _ _ c.requires.0

pub loop-entry-preserved : goal.loop-entry-preserved
loop-entry-preserved c =
    let start = c.args.start in
    let entry = c.loop-entry.entry in
    let before = c.loop-entry.invariant in
    let test = c.both_in.ensures in
    elim c.if-both_in.branch [
      | then-both_in w ↦ rw w.table-is
          (start_written start entry c.loop-entry.table before (omega arith) (rw w.if-both_in.true at test))
      | else-both_in w ↦ rw w.table-is
          (start_left start entry c.loop-entry.table before (omega arith) (rw w.if-both_in.false at test))
    ]
