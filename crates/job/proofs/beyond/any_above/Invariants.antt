-- `any_above` meets its contract: found among the first k amounts, of those that count.
use Prim.Native.Nat.{ℕ}
use mathlib.Core.Path.{◌≡◌}
use mathlib.Core.Bool.{Bool, ◌&&◌}
use mathlib.Core.List.{List}
use lib.Dec.{ltb}
use lib.ListN.{get_or}
use Rattle.lists.specs.Lists.{any_below}
use Rattle.job.specs.Valid.{over}
use Rattle.job.proofs.beyond.any_above.Given as goal

-- the amount at place k is over its limit
abbrev pub above_at : List ℕ → List ℕ → ℕ → Bool
above_at limits amounts k = over (get_or limits k 0) (get_or amounts k 0)

-- and it is one of the first n
abbrev pub counts_at : ℕ → List ℕ → List ℕ → ℕ → Bool
counts_at n limits amounts k = ltb k n && above_at limits amounts k

abbrev pub invariant-loop-k : goal.invariant-loop-k
invariant-loop-k l = l.found ≡ any_below l.k (counts_at l.n l.limits l.amounts)
