-- `facts::difference` meets its contract: what is taken away is part of a.
use mathlib.Core.Path.{refl}
use lib.Bits.{and_le_l}
use Rattle.facts.specs.FactSet.{difference}
use Rattle.facts.proofs.Membership.{has_difference}
use Rattle.facts.proofs.difference.Goals as goal

pub overflow_sub-result : goal.overflow_sub-result
overflow_sub-result c = and_le_l _ _

pub returns : goal.returns
unfolding difference
returns c = (refl, has_difference c.args.a c.args.b)
