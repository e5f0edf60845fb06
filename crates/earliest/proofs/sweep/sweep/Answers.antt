-- `sweep` meets its contract: the actions below i are done.
use Rattle.earliest.specs.Extra.{with_extra}
use Rattle.earliest.specs.Sweep.{ActionDone}
use Rattle.earliest.proofs.LoweringLaws.{lowerable_on}
use Rattle.earliest.proofs.Loops.{below_next}
use Rattle.earliest.proofs.sweep.sweep.Goals as goal

pub loop-i-preserved : goal.loop-i-preserved
loop-i-preserved c =
    let J = with_extra c.args.job c.args.extra in
    let lowers = c.by_action-changed.ensures in
    let xs = c.loop-i.table in (
      lowers.0,
      λ able.
          let before = c.loop-i.invariant.1 able in
          below_next J (ActionDone J) c.loop-i.i _ xs _ _ _ before
          (lowers.1 (lowerable_on J _ _ xs _ able before)),
    )
