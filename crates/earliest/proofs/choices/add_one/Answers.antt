-- `add_one` meets its contract: the facts below `q` are done.
use Rattle.earliest.specs.Sweep.{CarriedSettled}
use Rattle.earliest.proofs.LoweringLaws.{lowerable_on}
use Rattle.earliest.proofs.Loops.{below_next}
use native.Mathlib.Omega.{arith}
use Rattle.earliest.proofs.choices.add_one.Goals as goal

pub loop-q-preserved : goal.loop-q-preserved
loop-q-preserved c =
    let inv = c.loop-q.invariant in
    let lowers = c.carry-changed.ensures in
    let xs = c.loop-q.table in (
      lowers.0,
      λ J i n able is fits.
          let before = inv.1 J i n able is fits in
          below_next J (CarriedSettled J i) c.loop-q.q _ xs _ _ _ before
          (lowers.1 J i n (lowerable_on J _ _ xs _ able before) is fits (omega arith)),
    )
