-- `hinders` meets its contract.
use Rattle.timeline.proofs.hinders.Goals as goal

pub returns : goal.returns
returns c = λ n. rw (c.meets.ensures.0, c.union.ensures.0)
