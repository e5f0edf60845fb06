-- `amount` meets its contract: the bytes end before it, or have it.
use mathlib.Core.Path.{sym, ◌∙◌}
use Rattle.reader.proofs.Amounts.{amount_missing, amount_there}
use Rattle.reader.proofs.action.amount.Goals as goal

pub returns-then-bytes-i : goal.returns-then-bytes-i
returns-then-bytes-i c =
    sym (amount_missing c.args.bytes.now c.args.i c.if-bytes-i.true)

pub returns : goal.returns
returns c =
    c.read_number.ensures.0 ∙ sym (amount_there c.args.bytes.now c.args.i c.if-bytes-i.false)
