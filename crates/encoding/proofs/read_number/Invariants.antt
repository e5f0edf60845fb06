-- `read_number` meets its contract: `Reading` is the loop's invariant.
use Rattle.encoding.proofs.ReadLoop.{Reading}
use Rattle.encoding.proofs.read_number.Given as goal

abbrev pub invariant-loop-i : goal.invariant-loop-i
invariant-loop-i l = Reading l.bytes l.at l.n l.i l.x
