-- `add_each_with` meets its contract: the actions below j are done.
use mathlib.Core.Path.{◌≡◌}
use lib.ListN.{length}
use Rattle.earliest.specs.Extra.{with_extra}
use Rattle.earliest.specs.Lowering.{Lowerable, Lowering}
use Rattle.earliest.specs.Sweep.{JoinedSettled}
use Rattle.earliest.proofs.Loops.{Below}
use Rattle.earliest.proofs.sweep.add_each_with.Given as goal

abbrev pub invariant-loop-j : goal.invariant-loop-j
invariant-loop-j l =
    (length l.table ≡ 2080)
    × (Lowerable (with_extra l.job l.extra) l.initial.table
    → Lowering (with_extra l.job l.extra) (Below (JoinedSettled (with_extra l.job l.extra) l.i) l.j) l.initial.table l.table l.changed)
