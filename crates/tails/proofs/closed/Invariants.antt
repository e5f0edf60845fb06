-- `closed` meets its contract: the rule holds for the first i actions.
use Rattle.std.proofs.Common.{ℕ, ◌<◌}
use Rattle.tails.specs.Tails.{ClosedAt}
use Rattle.tails.proofs.closed.Given as goal

abbrev pub invariant-loop-i : goal.invariant-loop-i
invariant-loop-i l = (k : ℕ) → k < l.i → ClosedAt l.sets l.numbers l.tails k
