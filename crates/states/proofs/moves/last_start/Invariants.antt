-- `last_start` meets its contract: no start of the steps gone over, less the handover, lies between.
use Prim.Native.Nat.{ℕ, ◌+◌, ◌≤◌, ◌<◌}
use mathlib.Core.Path.{◌≡◌}
use lib.ListN.{get_or}
use Rattle.states.proofs.moves.last_start.Given as goal

abbrev pub invariant-loop-start : goal.invariant-loop-start
invariant-loop-start l =
    (l.m ≤ l.r) × (l.r < l.t)
    × ((j : ℕ) → j < l.start-index → (e : ℕ) → e < l.t → get_or l.start-items j 0 ≡ e + l.handover → e ≤ l.r)
