-- `write_number` meets its contract: `Writing` is the loop's invariant.
use mathlib.Core.Path.{refl}
use native.Mathlib.Omega.{arith}
use lib.ListN.{length-set}
use Rattle.encoding.proofs.WriteLoop.{writing_none, writing_more, writing_end}
use Rattle.encoding.proofs.write_number.Goals as goal

pub loop-i-init : goal.loop-i-init
loop-i-init c = (writing_none _ _ _ _, refl)

pub loop-i-preserved : goal.loop-i-preserved
loop-i-preserved c =
    let l = c.loop-i in
    let a = c.args in (
      writing_more a.out.now a.at a.n a.x l.out l.rest l.i (omega arith) (omega arith)
          l.invariant.0,
      simp length-set l.invariant.1,
    )

pub shape_of-out : goal.shape_of-out
shape_of-out c = c.loop-i.invariant.1

pub returns : goal.returns
returns c = writing_end _ _ _ _ _ _ _ (omega arith) c.loop-i.invariant.0
