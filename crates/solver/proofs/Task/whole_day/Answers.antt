-- `whole_day` meets its contract: no steps are kept.
use Rattle.solver.proofs.Task.whole_day.Goals as goal

pub returns : goal.returns
returns c = rw (c.begun.ensures, c.none.ensures)
