-- `solve` meets its contract: the first state stands, and a dead end there leaves no plan.
use Rattle.search.proofs.HorizonLaws.{begins_with_goal, ready_at_first, fresh_at_first}
use Rattle.search.proofs.HorizonLaws.{solved_by_regress, solved_by_finish}
use Rattle.search.proofs.horizons.solve.Goals as goal

pub returns-then-frame : goal.returns-then-frame
returns-then-frame c =
    solved_by_finish _ _ _ _ c.args.frame _ c.requires c.if-frame.true c.finish.ensures

pub regress-requires : goal.regress-requires
regress-requires c =
    let later = c.if-frame.false in
    let begins = begins_with_goal _ _ c.args.frame _ _ _ c.wide-minute.ensures.0
    c.look-at.ensures
    c.look.ensures in (
      ready_at_first _ _ _ c.args.frame c.requires later _ begins,
      fresh_at_first _ _ _ c.args.frame c.requires later _ begins,
    )

pub returns : goal.returns
returns c =
    let later = c.if-frame.false in
    solved_by_regress _ _ _ c.args.frame c.requires later _
    (begins_with_goal _ _ c.args.frame _ _ _ c.wide-minute.ensures.0 c.look-at.ensures
    c.look.ensures)
    _ _ c.regress.ensures
