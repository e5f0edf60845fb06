-- `write_number` meets its contract: `Writing` is the loop's invariant.
use mathlib.Core.Path.{◌≡◌}
use lib.ListN.{length}
use Rattle.encoding.proofs.WriteLoop.{Writing}
use Rattle.encoding.proofs.write_number.Given as goal

abbrev pub invariant-loop-i : goal.invariant-loop-i
invariant-loop-i l = Writing l.initial.out l.at l.n l.x l.out l.rest l.i × (length l.out ≡ length l.initial.out)
