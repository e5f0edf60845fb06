-- `clash` meets its contract: the same action, or one hinders the other.
use Rattle.tables.proofs.fill.clash.Goals as goal

pub returns : goal.returns
returns c = λ n. cc (c.hinders.ensures n, c.hinders-2.ensures n)
