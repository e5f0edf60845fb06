-- `facts::single` meets its contract: the power is below the word's.
use Prim.Native.Nat.{◌^◌, ◌<◌}
use native.Mathlib.Omega.{arith}
use lib.Pow.{pow-lt}
use Rattle.facts.proofs.single.Goals as goal

pub returns : goal.returns
returns c =
    let less : 2 ^ c.args.n < 2 ^ 64 = pow-lt {j = 64} (omega arith) in omega arith
