-- `search_allows` meets its contract: the search behind the steps finds no plan.
use Rattle.walker.specs.Walk.{SearchAllows}
use mathlib.Core.Path.{sym, subst}
use Rattle.search.specs.Horizons.{Whole}
use Rattle.walker.proofs.Asking.{whole_behind, search_refuses}
use Rattle.walker.proofs.ask.search_allows.Goals as goal

pub solve-requires : goal.solve-requires
solve-requires c =
    subst (Whole _ _ _) (sym c.behind-begun.ensures)
    (whole_behind _ _ _ c.args.frame c.args.steps c.requires.1 c.requires.0 c.requires.3 c.gone-given.result
    c.args.start c.args.number)

pub returns : goal.returns
returns c =
    subst (SearchAllows _ _ _ _ c.args.frame c.args.steps c.args.start c.args.number) (sym c.is_some.ensures)
    (search_refuses _ _ _ _ c.args.frame c.args.steps c.requires.1 c.gone-given.result c.args.start c.args.number
    c.gone-given.ensures c.solve.result
    _ c.behind-begun.ensures c.solve.ensures)
