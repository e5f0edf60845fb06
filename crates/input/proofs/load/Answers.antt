-- What a read consumes stands behind the front that was filled before.
-- Assumes nothing.
use Rattle.std.proofs.Common.{rules, subst, length, ◌-◌}
use Rattle.std.specs.Io.KnownBytes.{Consumes}
use Rattle.std.proofs.KnownBytes.{Consumes-trans}
use Rattle.input.proofs.Filling.{longer_front}
use Rattle.input.proofs.load.Goals as goal

pub loop-length-preserved : goal.loop-length-preserved
loop-length-preserved g c =
    let from = c.loop-length.length in
    let room = length c.loop-length.buffer - from in
    let n = c.in_ok-n.n in
    let front = longer_front from room n c.loop-length.buffer c.read.new.buf c.loop-length.invariant.1 c.in_ok-n.ensures.bound.0 in
    (search rules, search rules, subst (Consumes _ _) front (Consumes-trans _ _ _ _ _ c.loop-length.invariant.2 c.in_ok-n.ensures.bytes.0))
