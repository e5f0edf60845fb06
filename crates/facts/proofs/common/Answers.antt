-- `facts::common` meets its contract.
use Rattle.facts.proofs.Membership.{has_both}
use Rattle.facts.proofs.common.Goals as goal

pub returns : goal.returns
returns c = has_both c.args.a c.args.b
