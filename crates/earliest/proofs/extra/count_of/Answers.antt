-- `count_of` meets its contract.
use mathlib.Core.Path.{sym}
use Rattle.earliest.proofs.WithExtra.{action_count}
use Rattle.earliest.proofs.extra.count_of.Goals as goal

pub returns : goal.returns
returns c =
    sym (action_count c.args.job c.args.extra)
