-- `counted` meets its contract: the amounts are copied, and zeros stay behind them.
use Rattle.std.proofs.Common.{◌++◌, ap₂}
use Rattle.std.proofs.lemmas.List.{drop-replicate}
use Rattle.pooling.proofs.amounts.counted.Goals as goal

pub returns : goal.returns
returns c = ap₂ ◌++◌ c.copy_from_slice.ensures.after (drop-replicate _ 4 0)
