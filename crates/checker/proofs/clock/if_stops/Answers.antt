-- `if_stops` meets its contract.
use borrow.Author.Tests.{eq-eqb, ne_eqb}
use Rattle.checker.proofs.clock.if_stops.Goals as goal

pub returns-then-step-minute : goal.returns-then-step-minute
returns-then-step-minute c = λ n. rw (eq-eqb _ _ c.if-step-minute.true)

pub returns : goal.returns
returns c = λ n. rw (ne_eqb _ _ c.if-step-minute.false)
