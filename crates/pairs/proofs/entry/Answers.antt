-- `entry` meets its contract: the entry stands behind those of the rows before.
use Rattle.pairs.proofs.Rule.{row_bound}
use native.Mathlib.Omega.{arith}
use Rattle.pairs.proofs.entry.Goals as goal

pub returns : goal.returns
returns c = let b = row_bound c.args.high 63 (omega arith) in (omega arith, omega arith)
