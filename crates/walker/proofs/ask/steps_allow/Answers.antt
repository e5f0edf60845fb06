-- `steps_allow` meets its contract: a step is spare, or the steps break the rules.
use Rattle.walker.proofs.Sparing.{none_begins_when_spare}
use Rattle.walker.proofs.ask.steps_allow.Goals as goal

pub returns-then-not-none_spare : goal.returns-then-not-none_spare
returns-then-not-none_spare c =
    λ e J asked described table kept.
    let found = c.none_spare.ensures (c.if-not-none_spare.true) in
    none_begins_when_spare J _ _ _ c.args.frame asked described _ table c.args.steps kept found.0 found.1 found.2
