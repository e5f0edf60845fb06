-- `write_step` meets its contract: the number, then the start.
use Rattle.leaf.proofs.Writing.{step_written}
use Rattle.leaf.proofs.bytes.write_step.Goals as goal

pub returns : goal.returns
returns c =
    step_written _ _ _ _ _ _ (c.requires) (rw c.from.ensures at c.write_number.ensures)
    (rw c.from-2.ensures at c.write_number-2.ensures)
