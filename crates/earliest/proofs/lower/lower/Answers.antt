-- `lower` meets its contract: the entry stays, or is lowered.
use mathlib.Core.Path.{◌∙◌}
use lib.ListN.{length-set}
use Rattle.earliest.proofs.LoweringLaws.{entry_lowered}
use native.Mathlib.Omega.{arith}
use Rattle.earliest.proofs.lower.lower.Goals as goal

pub returns : goal.returns
returns c =
    let h = c.requires in
    let at = c.place-at.ensures in (
      length-set c.args.table.now c.place-at.result c.args.time ∙ h.0,
      entry_lowered c.args.table.now c.args.p c.args.q c.args.time c.place-at.result at.0
          (omega arith) (omega arith),
    )
