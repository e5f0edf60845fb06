-- `sweep` meets its contract: the actions below i are done.
use mathlib.Core.Path.{◌≡◌}
use lib.ListN.{length}
use Rattle.earliest.specs.Extra.{with_extra}
use Rattle.earliest.specs.Lowering.{Lowerable, Lowering}
use Rattle.earliest.specs.Sweep.{ActionDone}
use Rattle.earliest.proofs.Loops.{Below}
use Rattle.earliest.proofs.sweep.sweep.Given as goal

abbrev pub invariant-loop-i : goal.invariant-loop-i
invariant-loop-i l =
    (length l.table ≡ 2080)
    × (Lowerable (with_extra l.job l.extra) l.initial.table
    → Lowering (with_extra l.job l.extra) (Below (ActionDone (with_extra l.job l.extra)) l.i) l.initial.table l.table l.changed)
