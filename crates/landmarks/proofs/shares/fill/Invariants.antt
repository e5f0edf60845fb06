-- `fill` meets its contract: the first rows are filled, and stay.
use Prim.Native.Nat.{ℕ, ◌<◌}
use Rattle.landmarks.specs.Tables.{KeptBefore, Within}
use Rattle.landmarks.proofs.shares.fill.Given as goal

abbrev pub invariant-loop-row : goal.invariant-loop-row
invariant-loop-row l =
    KeptBefore 576 1220 l.initial.numbers l.numbers × ((k : ℕ) → k < l.row → Within l.sets l.numbers l.actions l.start k)
