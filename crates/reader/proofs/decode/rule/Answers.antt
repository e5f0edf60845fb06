-- `rule` meets its contract: the length of the head tells.
use borrow.Author.Tests.{eq-eqb, ne_eqb}
use Rattle.reader.proofs.decode.rule.Goals as goal

pub returns-then-head-eq-LONG_HEAD : goal.returns-then-head-eq-LONG_HEAD
returns-then-head-eq-LONG_HEAD c = rw (eq-eqb _ 20 c.if-head-eq-LONG_HEAD.true)

pub returns : goal.returns
returns c = rw (ne_eqb _ 20 c.if-head-eq-LONG_HEAD.false)
