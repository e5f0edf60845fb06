-- `with_step` meets its contract: kept or not.
use native.Mathlib.Omega.{arith}
use mathlib.Core.Path.{refl}
use Rattle.replanner.proofs.kept.with_step.Goals as goal

pub returns-then-minute-step : goal.returns-then-minute-step
returns-then-minute-step c = let l = c.if-minute-step.true in ((λ early. absurd (omega arith)), λ late. refl)

pub overflow_cast-step : goal.overflow_cast-step
overflow_cast-step c = let l = c.requires.1 in omega arith

pub push-requires : goal.push-requires
push-requires c = c.requires.0

pub returns : goal.returns
returns c =
    let l = c.if-minute-step.false in ((λ early. c.push.ensures), λ late. absurd (omega arith))
