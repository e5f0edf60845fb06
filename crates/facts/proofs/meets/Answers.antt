-- `facts::meets` meets its contract.
use mathlib.Core.Path.{refl}
use Rattle.facts.specs.FactSet.{meets}
use Rattle.facts.proofs.Membership.{disjoint_decides}
use Rattle.facts.proofs.meets.Goals as goal

pub returns : goal.returns
unfolding meets
returns c = (refl, disjoint_decides c.args.a c.args.b)
