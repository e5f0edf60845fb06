-- `fill_row` meets its contract: the row found passes the test, or is put to nothing.
use Rattle.landmarks.proofs.TableLaws.{kept_again}
use Rattle.landmarks.proofs.ShareLaws.{within_when_empty}
use Rattle.landmarks.proofs.shares.fill_row.Goals as goal

pub returns-then-not-within : goal.returns-then-not-within
returns-then-not-within c = (
  kept_again _ 1220 _ _ _ c.search.ensures c.put.ensures.kept,
  within_when_empty c.args.sets.now c.args.start _ _ c.args.actions _ c.put.ensures,
)
