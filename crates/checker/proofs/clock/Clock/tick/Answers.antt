-- `tick` meets its contract.
use Rattle.checker.proofs.clock.Clock.tick.Goals as goal

pub returns : goal.returns
returns c =
    rw (c.union.ensures.0, c.difference.ensures.0, c.effects_at-now.ensures)
