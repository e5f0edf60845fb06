-- `write_later` meets its contract: `WroteLater` is the loop's invariant.
use mathlib.Core.Path.{◌≡◌}
use lib.ListN.{length}
use Rattle.joining.proofs.WritingLater.{WroteLater}
use Rattle.joining.proofs.later.write_later.Given as goal

abbrev pub invariant-loop-i : goal.invariant-loop-i
invariant-loop-i l =
    (length l.out ≡ length l.initial.out) × WroteLater l.minutes l.plan l.initial.out l.out l.i
