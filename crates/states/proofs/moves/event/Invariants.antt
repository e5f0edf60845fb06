-- `event` meets its contract: no start lies between, nor one less the handover of the pools gone over.
use Prim.Native.Nat.{ℕ, ◌≤◌, ◌<◌}
use lib.ListN.{get_or}
use Rattle.states.specs.Moves.{NoStartBetween}
use Rattle.states.proofs.moves.event.Given as goal

abbrev pub invariant-loop-k : goal.invariant-loop-k
invariant-loop-k l =
    (l.fn.frame.first ≤ l.m) × (l.m < l.t) × NoStartBetween 0 l.steps l.m l.t
    × ((pool : ℕ) → pool < l.k → NoStartBetween (get_or l.handovers pool 0) l.steps l.m l.t)
