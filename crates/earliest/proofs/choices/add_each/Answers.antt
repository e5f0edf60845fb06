-- `add_each` meets its contract: both ends, each from the time of the needs that it waits for.
use Rattle.earliest.proofs.SetTimes.{same_time_as}
use Rattle.earliest.proofs.Lowers.{nothing_apart, pair_lowers}
use Rattle.earliest.proofs.Unreachable.{pair_late}
use Rattle.earliest.proofs.choices.add_each.Goals as goal

pub returns-then-only_a-only_b : goal.returns-then-only_a-only_b
returns-then-only_a-only_b c =
    let at = c.args in
    let nothing = nothing_apart at.facts at.table.now at.a at.b _ _
    c.difference-only_a.ensures.0
    c.difference-only_b.ensures.0 c.if-only_a-only_b.true in
    (c.requires.0, nothing)

pub returns-then-both_ready-gt-LATEST : goal.returns-then-both_ready-gt-LATEST
returns-then-both_ready-gt-LATEST c =
    let at = c.args in
    let both = same_time_as at.table.now at.facts _ _ _ c.union.ensures.0
    c.set_time-both_ready.ensures in
    (c.requires.0, pair_late at.facts at.table.now at.a at.b _ both c.if-both_ready-gt-LATEST.true)

pub returns : goal.returns
returns c =
    let lowers = c.lower_all.ensures in
    let at = c.args in
    let both = same_time_as at.table.now at.facts _ _ _ c.union.ensures.0 c.set_time-both_ready.ensures in
    let pair = pair_lowers at.facts _ _ _ at.a at.b _ _ _ _ _ _ c.difference-only_a.ensures.0
    c.difference-only_b.ensures.0 c.end.ensures both c.after.ensures.0 c.later-time.ensures lowers.1 in
    (lowers.0, pair)
