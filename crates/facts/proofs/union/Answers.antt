-- `facts::union` meets its contract.
use mathlib.Core.Path.{refl}
use Rattle.facts.specs.FactSet.{union}
use Rattle.facts.proofs.Membership.{has_union}
use Rattle.facts.proofs.union.Goals as goal

pub returns : goal.returns
unfolding union
returns c = (refl, has_union c.args.a c.args.b)
