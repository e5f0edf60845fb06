-- `left` meets its contract: the first k places hold what is left.
use Prim.Native.Nat.{◌-◌, ◌≤◌}
use mathlib.Core.Path.{◌≡◌}
use lib.ListN.{length}
use Rattle.halving.specs.Inner.{LeftInStores}
use Rattle.halving.proofs.left.Given as goal

abbrev pub invariant-loop-k : goal.invariant-loop-k
invariant-loop-k l = (length l.out ≡ 4) × LeftInStores l.job l.plan l.k l.out
