-- `sum` meets its contract: the numbers of the facts before the next one are added up.
use Prim.Native.Nat.{◌*◌, ◌^◌, ◌≤◌}
use mathlib.Core.Path.{◌≡◌}
use Rattle.landmarks.specs.Landmarks.{sum_over}
use Rattle.landmarks.specs.Tables.{share_from}
use Rattle.landmarks.proofs.shares.sum.Given as goal

abbrev pub invariant-loop-p : goal.invariant-loop-p
invariant-loop-p l =
    (l.p-iterator.set ≡ l.set) × (l.all ≡ sum_over (share_from l.numbers l.at) l.p-iterator.from l.set)
    × (l.all ≤ l.p-iterator.from * 2 ^ 32)
