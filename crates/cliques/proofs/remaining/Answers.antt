-- `remaining` meets its contract.
use Rattle.cliques.proofs.RemainingLaws.{remaining_of}
use Rattle.cliques.proofs.remaining.Goals as goal

pub returns : goal.returns
returns c =
    remaining_of c.args.sets.now c.args.allowed c.args.q _ _ _ c.single.ensures
    c.difference-others.ensures.0 c.common.ensures
