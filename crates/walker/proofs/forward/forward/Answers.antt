-- `forward` meets its contract: in the same minute the same facts hold, and a minute later what the steps leave.
use mathlib.Core.Path.{refl, ap₂, ◌∙◌}
use Rattle.facts.specs.FactSet.{union}
use Rattle.tables.specs.Tables.{chosen}
use Rattle.walker.proofs.ForwardLaws.{held_a_minute_later}
use native.Mathlib.Omega.{arith}
use Rattle.walker.proofs.forward.forward.Goals as goal

pub returns : goal.returns
returns c =
    λ J described holds.
    let l = c.if-place-eq0.false in
    let m = c.if-place-gt0.false in
    let d = c.difference.ensures.0 in
    c.union.ensures.0 ∙ ap₂ union d (c.look-m.ensures J described).added
    ∙ held_a_minute_later J.start (chosen J c.args.steps) c.args.place _ holds (omega arith) (omega arith)
    c.lost-gone.result _ (c.lost-gone.ensures J described) refl
