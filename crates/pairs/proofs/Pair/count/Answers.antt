-- `count` meets its contract.
use Rattle.pairs.proofs.Rule.{row_bound}
use native.Mathlib.Omega.{arith}
use Rattle.pairs.proofs.Pair.count.Goals as goal

pub overflow_mul-result : goal.overflow_mul-result
overflow_mul-result c = let b = row_bound c.args.facts 64 c.requires in rw c.from-row.ensures (omega arith)

pub returns : goal.returns
returns c = let b = row_bound c.args.facts 64 c.requires in rw c.from-row.ensures (omega arith, omega arith)
