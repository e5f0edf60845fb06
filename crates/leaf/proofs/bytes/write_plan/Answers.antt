-- `write_plan` meets its contract: `Wrote` is the loop's invariant.
use Rattle.leaf.proofs.Writing.{wrote_none, wrote_more, wrote_all}
use native.Mathlib.Omega.{arith}
use Rattle.leaf.proofs.bytes.write_plan.Goals as goal

pub loop-k-init : goal.loop-k-init
loop-k-init c = wrote_none c.args.steps c.args.out.now

pub loop-k-preserved : goal.loop-k-preserved
loop-k-preserved c = wrote_more c.args.steps _ _ c.loop-k.k c.loop-k.invariant (omega arith) _
    (λ J. c.write_step.ensures)

pub returns : goal.returns
returns c =
    wrote_all c.args.steps _ _ _ c.loop-k.invariant (omega arith)
