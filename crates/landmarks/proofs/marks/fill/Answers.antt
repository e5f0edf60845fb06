-- `fill` meets its contract: the table found passes the test, or is put to nothing.
use Rattle.landmarks.proofs.TableLaws.{kept_again, closed_when_empty}
use Rattle.landmarks.proofs.marks.fill.Goals as goal

pub returns-then-not-closed : goal.returns-then-not-closed
returns-then-not-closed c = (
  kept_again 256 384 _ _ _ c.search.ensures c.begin.ensures.kept,
  closed_when_empty _ _ _ _ c.begin.ensures,
)
