-- `told` meets its contract: the steps are counted.
use Rattle.lists.proofs.Tabulate.{length_tabulate}
use Rattle.timeline.specs.Value.{step_at}
use Rattle.checker.proofs.told.Goals as goal

pub returns : goal.returns
returns c =
    let count = length_tabulate c.args.plan.length (step_at c.args.plan) in
    rw (c.peaks.ensures, c.requires.4, count)
