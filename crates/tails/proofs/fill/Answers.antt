-- `fill` meets its contract: the tails pass their test, or are all 0.
use Rattle.tails.proofs.TailLoops.{zero_table, zeros}
use Rattle.tails.proofs.fill.Goals as goal

pub returns-then-not-closed : goal.returns-then-not-closed
returns-then-not-closed c = rw (c.fill.ensures.after (λ y h. h), c.find.ensures) (zero_table _ _ _ _ _ zeros)
