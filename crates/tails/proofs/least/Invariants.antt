-- `least` meets its contract: no fact of the set below p has a shorter tail.
use Prim.Native.Nat.{ℕ, ◌-◌, ◌≤◌, ◌<◌}
use mathlib.Core.Path.{◌≡◌}
use mathlib.Core.Bool.{true}
use lib.ListN.{get_or}
use Rattle.facts.specs.FactSet.{has}
use Rattle.tails.proofs.least.Given as goal

abbrev pub invariant-loop-p : goal.invariant-loop-p
invariant-loop-p l = (l.p ≤ 64) × (l.all ≤ 100000) × ((n : ℕ) → n < l.p → has l.set n ≡ true → l.all ≤ get_or l.tails n 0)

abbrev pub decreases-loop-p : goal.decreases-loop-p
decreases-loop-p l = 64 - l.p
