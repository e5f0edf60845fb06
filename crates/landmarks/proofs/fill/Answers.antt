-- `fill` meets its contract: what is put first stays while the rest is put behind it.
use Rattle.landmarks.proofs.KeptTables.{landmarks_filled}
use Rattle.landmarks.proofs.fill.Goals as goal

pub returns : goal.returns
returns c =
    let marks = c.fill.ensures in
    let shares = c.fill-2.ensures in
    let filled = landmarks_filled _ c.args.frame c.args.start c.requires.2.actions _ _ _ _ marks.0.size
    marks.1 shares.0 shares.1 c.fill-3.ensures in
    (marks.0, filled.0, filled.1)
