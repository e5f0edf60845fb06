-- `add_each_with` meets its contract: the actions below j are done.
use Rattle.earliest.specs.Extra.{with_extra}
use Rattle.earliest.specs.Sweep.{IsAction, JoinedSettled}
use Rattle.earliest.proofs.LoweringLaws.{lowerable_on}
use Rattle.earliest.proofs.Loops.{below_next}
use Rattle.earliest.proofs.WithExtra.{is_own_action, extra_place, is_extra_action, has_pools}
use native.Mathlib.Omega.{arith}
use Rattle.earliest.proofs.sweep.add_each_with.Goals as goal
use Rattle.earliest.proofs.sweep.add_each_with.Goals.{then-j-counts, else-j-counts}

pub offset_bounds-extra-j : goal.offset_bounds-extra-j
offset_bounds-extra-j c =
    let count = c.count_of-count.ensures in
    let place = extra_place c.args.job c.args.extra c.requires.1 c.loop-j.j (omega arith) in omega arith

pub bounds-extra-j : goal.bounds-extra-j
bounds-extra-j c =
    let count = c.count_of-count.ensures in
    extra_place c.args.job c.args.extra c.requires.1 c.loop-j.j (omega arith)

pub loop-j-preserved : goal.loop-j-preserved
loop-j-preserved c =
    let job = c.args.job in
    let extra = c.args.extra in
    let J = with_extra job extra in
    let i = c.args.i in
    let j = c.loop-j.j in
    let lowers = c.add_pair-changed.ensures in
    let xs = c.loop-j.table in
    let count = c.count_of-count.ensures in
    let is : IsAction J job.facts j job.counts c.if-j-counts.b =
    elim c.if-j-counts.branch [
      | then-j-counts w ↦ rw w.b-is (is_own_action job extra j w.if-j-counts.true)
      | else-j-counts w ↦ rw w.b-is (is_extra_action job extra j w.if-j-counts.false (omega arith))
    ] in (
      lowers.0,
      λ able.
          let before = c.loop-j.invariant.1 able in
          below_next J (JoinedSettled J i) j _ xs _ _ _ before
          (lowers.1 J job.counts (lowerable_on J _ _ xs _ able before) (has_pools job extra) c.requires.2 is),
    )
