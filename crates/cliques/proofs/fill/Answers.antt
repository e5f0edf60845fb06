-- `fill` meets its contract: what is put first stays while the rest is put behind it.
use Rattle.cliques.proofs.FillLaws.{marked_tables}
use Rattle.cliques.proofs.fill.Goals as goal

pub returns : goal.returns
returns c =
    let landmarks = c.fill.ensures in
    let apart = c.fill-2.ensures in
    marked_tables _ _ _ _ _ _ _ c.args.frame c.args.start c.requires.2 landmarks.0 landmarks.1 landmarks.2
    apart.0 apart.1 c.fill-3.ensures
