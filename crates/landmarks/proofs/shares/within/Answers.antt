-- `within` meets its contract: each action passes.
use Rattle.std.proofs.Common.{rules, tests}
use Rattle.landmarks.specs.Tables.{WithinAt}
use Rattle.landmarks.proofs.Ranges.{each_when_all}
use Rattle.landmarks.proofs.shares.within.Goals as goal

pub returns : goal.returns
returns c = each_when_all c.args.actions _ _ _ (WithinAt c.args.sets.now c.args.numbers.now c.args.start c.args.row)
    c.all.ensures.ran (λ x q shown. search (rules, tests))
