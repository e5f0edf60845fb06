-- `opening` meets its contract: the minute is not after the time of what a user of the first i actions needs.
use Prim.Native.Nat.{◌≤◌}
use Rattle.landmarks.specs.Openings.{OpenTo}
use Rattle.landmarks.proofs.openings.opening.Given as goal

abbrev pub invariant-loop-i : goal.invariant-loop-i
invariant-loop-i l = (l.best ≤ 530400) × OpenTo l.sets l.numbers l.times l.frame l.i l.pool l.best
