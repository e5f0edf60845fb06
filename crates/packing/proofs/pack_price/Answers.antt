-- `pack_price` meets its contract: the kind 0 adds nothing.
use Rattle.packing.specs.Answer.{cost}
use native.Mathlib.Omega.{arith}
use Rattle.packing.proofs.pack_price.Goals as goal

pub returns : goal.returns
unfolding cost
returns c = omega arith
