-- `write_later` meets its contract: `WroteLater` is the loop's invariant.
use mathlib.Core.Path.{refl}
use native.Mathlib.Omega.{arith}
use Rattle.joining.proofs.WritingLater.{wrote_none, wrote_more, wrote_all}
use Rattle.joining.proofs.later.write_later.Goals as goal

pub loop-i-init : goal.loop-i-init
loop-i-init c = (refl, wrote_none _ _ _)

pub loop-i-preserved : goal.loop-i-preserved
loop-i-preserved c = (
  omega arith,
  wrote_more _ _ _ _ c.loop-i.i c.loop-i.invariant.1 (omega arith) _ c.write_step.ensures,
)

pub returns : goal.returns
returns c = wrote_all _ _ _ _ _ c.loop-i.invariant.1 (omega arith)
