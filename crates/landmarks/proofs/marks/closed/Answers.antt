-- `closed` meets its contract: each fact passes.
use Rattle.std.proofs.Common.{rules, tests}
use Rattle.landmarks.specs.Tables.{ClosedAt}
use Rattle.landmarks.proofs.Ranges.{each_when_all}
use Rattle.landmarks.proofs.marks.closed.Goals as goal

pub returns : goal.returns
returns c = each_when_all 64 _ _ _ (ClosedAt c.args.sets.now c.args.actions c.args.start) c.all.ensures.ran
    (λ x q shown. search (rules, tests))
