-- `shortest` meets its contract: the kept steps alone, or a plan that ends after the first free minute.
use Rattle.search.proofs.Counted.{none_of}
use Rattle.std.specs.Prelude.{Option, Some, None, is_some}
use mathlib.Core.Path.{◌≡◌, refl, sym, ap, ◌∙◌}
use mathlib.Core.Bool.{false}
use Rattle.leaf.specs.declared.Answer.{Answer}
use Rattle.search.proofs.HorizonBounds.{whole_when_begun, shortest_when_begun, none_by_first}
use Rattle.search.proofs.HorizonBounds.{none_when_no_minute_is_free}
use native.Mathlib.Omega.{arith}
use Rattle.search.proofs.horizons.shortest.Goals as goal

pub solve-kept-requires : goal.solve-kept-requires
solve-kept-requires c =
    whole_when_begun c.args.file.now _ _ _ c.args.frame _ c.earlier.ensures _ c.until-begun.ensures
    (c.requires)

pub returns-then-is_some : goal.returns-then-is_some
returns-then-is_some c =
    shortest_when_begun _ _ _ _ c.args.frame _ c.earlier.ensures _ c.until-begun.ensures
    c.solve-kept.result c.solve-kept.ensures (sym c.is_some.ensures ∙ c.if-is_some.true)

pub returns-then-frame : goal.returns-then-frame
returns-then-frame c =
    record {
      found = λ a e. cc;
      none = λ e.
          none_when_no_minute_is_free _ _ _ _ c.args.frame _ c.earlier.ensures _ c.until-begun.ensures
          c.solve-kept.result c.solve-kept.ensures
          (none_of _ (sym c.is_some.ensures ∙ c.if-is_some.false)) c.if-frame.true;
    }

pub returns-then-wide-low : goal.returns-then-wide-low
returns-then-wide-low c =
    let w = c.wide.ensures.0 in
    let late = c.if-wide-low.true in
    record {
      found = λ a e. cc;
      none = λ e J task passed bytes accepted counts.
          let low = c.lowest-low.ensures _ _ _ J task passed
          (none_by_first _ _ _ _ c.args.frame _ c.earlier.ensures _ c.until-begun.ensures
          c.solve-kept.result c.solve-kept.ensures
          (none_of _ (sym c.is_some.ensures ∙ c.if-is_some.false)) c.if-frame.false J task passed) bytes accepted counts in
          omega arith;
    }

pub shortest_from-requires : goal.shortest_from-requires
shortest_from-requires c =
    let w = c.wide.ensures.0 in
    let early = c.if-wide-low.false in
    (c.requires, omega arith)

pub returns : goal.returns
returns c =
    let w = c.wide.ensures.0 in
    let early = c.if-wide-low.false in
    record {
      found = λ a e J task passed.
          c.shortest_from.ensures.found a e J task passed
          (λ bytes accepted counts.
          let low = c.lowest-low.ensures _ _ _ J task passed
          (none_by_first _ _ _ _ c.args.frame _ c.earlier.ensures _ c.until-begun.ensures
          c.solve-kept.result c.solve-kept.ensures
          (none_of _ (sym c.is_some.ensures ∙ c.if-is_some.false)) c.if-frame.false J task passed) bytes accepted counts in
          omega arith);
      none = c.shortest_from.ensures.none;
    }
