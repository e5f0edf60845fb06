-- `clashing` meets its contract.
use Rattle.checker.proofs.rules.clashing.Goals as goal

pub returns : goal.returns
returns c = λ n. rw (c.hinders.ensures n, c.hinders-2.ensures n)
