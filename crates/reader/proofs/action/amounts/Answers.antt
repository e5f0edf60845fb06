-- `amounts` meets its contract: the four places.
use Rattle.reader.proofs.Amounts.{four_amounts}
use Rattle.reader.proofs.action.amounts.Goals as goal

pub returns : goal.returns
returns c =
    rw (c.amount-first.ensures, c.amount-second.ensures, c.amount-third.ensures, c.amount-fourth.ensures)
    (four_amounts c.args.bytes.now (c.requires))
