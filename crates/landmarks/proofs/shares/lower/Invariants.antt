-- `lower` meets its contract: entries before the place stay.
use Rattle.landmarks.specs.Tables.{KeptBefore}
use Rattle.landmarks.proofs.shares.lower.Given as goal

abbrev pub invariant-loop-p : goal.invariant-loop-p
invariant-loop-p l = KeptBefore l.at 1220 l.initial.numbers l.numbers
