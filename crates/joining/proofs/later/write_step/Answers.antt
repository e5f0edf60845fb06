-- `write_step` meets its contract: the number, then the start.
use Rattle.joining.proofs.WritingLater.{step_written}
use Rattle.joining.proofs.later.write_step.Goals as goal

pub returns : goal.returns
returns c =
    rw (← c.from.ensures)
    (step_written _ _ _ _ _ _ _ _ c.requires.0 c.read_number-number.ensures.0 c.read_number-start.ensures.0
    c.write_number.ensures
    c.write_number-2.ensures)
