-- `all` meets its contract: the set of all ones, shifted down to as many as there are actions.
use Rattle.states.proofs.CandidateLaws.{in_first_facts}
use Rattle.states.proofs.rules.all.Goals as goal

pub returns : goal.returns
returns c = λ a l. in_first_facts c.args.actions a c.requires l
