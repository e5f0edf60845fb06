-- `facts::subset` meets its contract.
use mathlib.Core.Path.{refl}
use Rattle.facts.specs.FactSet.{subset}
use Rattle.facts.proofs.Membership.{subset_decides}
use Rattle.facts.proofs.subset.Goals as goal

pub returns : goal.returns
unfolding subset
returns c = (refl, subset_decides c.args.a c.args.b)
