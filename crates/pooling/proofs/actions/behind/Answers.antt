-- `behind` meets its contract: the shift loses no bit.
use native.Mathlib.Nat.{mod-eq_of_lt}
use Rattle.pooling.specs.Pooled.{behind}
use Rattle.pooling.proofs.Behind.{behind_nothing}
use native.Mathlib.Omega.{arith}
use Rattle.pooling.proofs.actions.behind.Goals as goal

pub returns-then-facts-ge-BITS : goal.returns-then-facts-ge-BITS
returns-then-facts-ge-BITS c =
    behind_nothing c.args.facts c.args.set (omega arith) c.requires

pub returns : goal.returns
unfolding behind
returns c = mod-eq_of_lt c.requires
