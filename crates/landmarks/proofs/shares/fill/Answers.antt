-- `fill` meets its contract: the first rows are filled, and stay.
use Rattle.landmarks.proofs.TableLaws.{kept_again}
use Rattle.landmarks.proofs.ShareLaws.{kept_less, rows_on}
use native.Mathlib.Omega.{arith}
use Rattle.landmarks.proofs.shares.fill.Goals as goal

pub loop-row-preserved : goal.loop-row-preserved
loop-row-preserved c =
    let inv = c.loop-row.invariant in
    let few = c.requires.1.few in
    let r = c.fill_row.ensures in (
      kept_again 576 1220 _ _ _ inv.0 (kept_less 576 _ 1220 _ _ (omega arith) r.0),
      rows_on c.args.sets.now c.args.start _ _ c.args.actions c.loop-row.row few (omega arith)
          r.0 r.1 inv.1,
    )
