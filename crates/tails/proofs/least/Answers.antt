-- `least` meets its contract: no fact of the set below p has a shorter tail.
use Rattle.std.proofs.Common.{◌≤◌, get_or, arith}
use Rattle.tails.proofs.TailLoops.{facts_of_word}
use Rattle.tails.proofs.least.Goals as goal

pub returns : goal.returns
returns c =
    let inv = c.loop-p.invariant in (
      inv.1,
      facts_of_word (λ n. c.loop-p.all ≤ get_or c.args.tails.now n 0) c.args.set c.loop-p.p (omega arith) (omega arith)
          inv.2,
    )
