-- `fill` meets its contract: the start's entries are 0 from the first on, and the others fall until none does.
use Prim.Native.Nat.{◌+◌}
use mathlib.Core.Path.{◌≡◌}
use mathlib.Core.Bool.{false, cond}
use lib.ListN.{length}
use Rattle.times.specs.Entries.{sum}
use Rattle.earliest.specs.Extra.{with_extra}
use Rattle.earliest.specs.Lowering.{Lowerable}
use Rattle.earliest.specs.Sweep.{ActionsDone, StartDone}
use Rattle.earliest.proofs.sweep.fill.Given as goal

abbrev pub invariant-loop-changed : goal.invariant-loop-changed
invariant-loop-changed l =
    (length l.table ≡ 2080) × Lowerable (with_extra l.job l.extra) l.table × StartDone (with_extra l.job l.extra) l.table
    × (l.changed ≡ false → ActionsDone (with_extra l.job l.extra) l.table)

abbrev pub decreases-loop-changed : goal.decreases-loop-changed
decreases-loop-changed l = sum l.table + cond l.changed 1 0
