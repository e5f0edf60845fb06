-- `known_actions` meets its contract: the actions of the first i steps are known.
use Prim.Native.Nat.{ℕ, ◌*◌, ◌<◌}
use lib.ListN.{get_or}
use Rattle.checker.proofs.decode.known_actions.Given as goal

abbrev pub invariant-loop-i : goal.invariant-loop-i
invariant-loop-i l = ((k : ℕ) → k < l.i → get_or l.bytes (k * 3) 0 < l.counts.actions)
