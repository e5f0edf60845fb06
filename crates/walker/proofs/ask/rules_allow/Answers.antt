-- `rules_allow` meets its contract: the leaf holds the steps to the checker, for no goal.
use mathlib.Core.Path.{sym, subst}
use Rattle.walker.specs.Walk.{RulesAllow}
use Rattle.walker.proofs.Asking.{rules_refuse}
use Rattle.walker.proofs.ask.rules_allow.Goals as goal

pub returns : goal.returns
returns c =
    subst (RulesAllow _ c.args.frame c.args.steps) (sym c.is_some.ensures)
    (rules_refuse _ c.args.frame c.args.steps c.finish.result
    _ c.for_rules.ensures c.finish.ensures)
