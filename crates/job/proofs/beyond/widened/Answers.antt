-- `widened` meets its contract: place by place.
use Rattle.lists.specs.Lists.{tabulate}
use Rattle.job.proofs.beyond.widened.Goals as goal

pub returns : goal.returns
unfolding tabulate
returns c = rw (c.from.ensures, c.from-2.ensures, c.from-3.ensures, c.from-4.ensures)
