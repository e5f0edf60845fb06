-- `plus` meets its contract: the first k sums have their amounts, the others are as before.
use Prim.Native.Nat.{ℕ, ◌≤◌, ◌<◌}
use mathlib.Core.Path.{◌≡◌}
use mathlib.Core.Bool.{Bool}
use lib.ListN.{length, get_or}
use Rattle.states.proofs.AmountLaws.{AddedTo}
use Rattle.states.proofs.amounts.plus.Given as goal

abbrev pub invariant-loop-k : goal.invariant-loop-k
invariant-loop-k g l =
    (length l.out ≡ 4) × ((j : ℕ) → l.k ≤ j → get_or l.out j 0 ≡ get_or l.initial.out j 0)
    × ((test : ℕ → Bool) → ((k : ℕ) (b : Bool) → k < 4 → goal.F-post g l.counts k b → b ≡ test k)
    → AddedTo l.numbers l.at test l.initial.out l.k l.out)
