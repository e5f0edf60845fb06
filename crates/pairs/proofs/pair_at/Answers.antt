-- `pair_at` meets its contract: the entry stands in its row.
use Rattle.std.proofs.Common.{◌≡◌, ◌∙◌, refl, arith}
use Rattle.pairs.specs.declared.TheConstants.{ROW_STARTS}
use Rattle.pairs.specs.Pairs.{entry_of}
use Rattle.pairs.proofs.Rule.{rule_when_tested, pair_in_row}
use Rattle.pairs.proofs.pair_at.Goals as goal

start : (c : goal.After-from) → c.from.result ≡ entry_of 0 c.row_of-row.result
start c = c.from.ensures ∙ (rule_when_tested ROW_STARTS refl refl).start c.row_of-row.result c.row_of-row.ensures.within

pub overflow_sub-result : goal.overflow_sub-result
overflow_sub-result c = rw (start c) c.row_of-row.ensures.from

pub overflow_cast-result : goal.overflow_cast-result
overflow_cast-result c =
    rw (start c) (let pair = pair_in_row c.args.entry c.row_of-row.result c.row_of-row.ensures in omega arith)

pub returns : goal.returns
returns c = rw (start c) (pair_in_row c.args.entry c.row_of-row.result c.row_of-row.ensures)
