-- `fill` meets its contract: the start's entries are 0 from the first on, and the others fall until none does.
use mathlib.Core.Bool.{true≢false}
use Rattle.earliest.specs.Extra.{with_extra}
use Rattle.earliest.proofs.LoweringLaws.{lowerable_on, settled_after}
use Rattle.earliest.proofs.StartLaws.{start_lowerable, start_done, start_done_on}
use Rattle.earliest.proofs.Swept.{solves_when_swept}
use Rattle.earliest.proofs.sweep.fill.Goals as goal

pub loop-changed-init : goal.loop-changed-init
loop-changed-init c =
    let J = with_extra c.args.job c.args.extra in
    let few = c.requires.1.facts in
    let times = c.begin.ensures in
    (times.whole, start_lowerable J few _ times, start_done J few _ times, λ never. absurd (true≢false never))

pub loop-changed-preserved : goal.loop-changed-preserved
loop-changed-preserved c =
    let sweeps = c.sweep-changed.ensures in
    let lowering = sweeps.1 c.loop-changed.invariant.1 in (
      sweeps.0,
      lowerable_on _ _ c.loop-changed.table _ _ c.loop-changed.invariant.1 lowering,
      start_done_on _ _ c.loop-changed.table _ _ lowering c.loop-changed.invariant.2,
      settled_after _ _ c.loop-changed.table _ _ lowering,
    )

pub returns : goal.returns
returns c =
    let inv = c.loop-changed.invariant in
    record {
      able = inv.1;
      solves = solves_when_swept _ _ inv.1 (record { start = inv.2; actions = inv.3 c.loop-changed-test.false });
    }
