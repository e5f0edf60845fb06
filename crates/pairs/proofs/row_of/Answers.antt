-- `row_of` meets its contract: the rows that start at the entry or before it are the first ones.
use Rattle.std.proofs.Common.{◌-◌, ◌<◌, leb, rules, refl}
use Rattle.std.proofs.lemmas.List.Sorted.{IsPartitionPoint-from_clause}
use Rattle.pairs.specs.declared.TheConstants.{ROW_STARTS}
use Rattle.pairs.specs.Pairs.{IsRowOf}
use Rattle.pairs.proofs.Rule.{rule_when_tested, rows_rise, last_row}
use Rattle.pairs.proofs.row_of.Goals as goal

found : (c : goal.After-partition_point) → (0 < c.partition_point.result) × IsRowOf c.args.entry (c.partition_point.result - 1)
found c =
    let rule = rule_when_tested ROW_STARTS refl refl in
    let point = IsPartitionPoint-from_clause (λ y. leb y c.args.entry) ROW_STARTS _
    c.partition_point.ensures.partitioned (rows_rise ROW_STARTS c.args.entry rule refl) (λ a r q k. search rules) in
    last_row ROW_STARTS c.args.entry _ rule refl c.requires c.partition_point.ensures.bound point

pub overflow_sub-result : goal.overflow_sub-result
overflow_sub-result c = (found c).0

pub returns : goal.returns
returns c = (found c).1
