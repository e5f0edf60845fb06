-- `plan_from` meets its contract: the shortest plan says where the list ends, and the walk goes over it.
use Prim.Native.Nat.{◌%◌, ◌≤◌}
use mathlib.Core.Path.{◌≡◌, sym, ap, ◌∙◌, subst}
use native.Mathlib.Nat.{mod-eq_of_lt}
use Rattle.tables.specs.declared.Frame.{Frame}
use Rattle.search.specs.Horizons.{Whole}
use Rattle.walker.proofs.TailLaws.{tails_up_to}
use Rattle.walker.specs.Walk.{Kept}
use Rattle.walker.proofs.Paging.{whole_up_to, kept_none, in_time_lem, page_of_walk, page_of_none}
use native.Mathlib.Omega.{arith}
use Rattle.walker.proofs.page.plan_from.Goals as goal

pub returns-in_err-best : goal.returns-in_err-best
returns-in_err-best c =
    λ J task passed whole last plain. rw c.from_residual.ensures
    (page_of_none J _ _ _ _ c.args.frame task passed whole last plain c.requires.0 c.shortest.result c.shortest.ensures
    c.args.place c.in_err-best.was)

pub returns-then-wide-best : goal.returns-then-wide-best
returns-then-wide-best c =
    λ J task passed whole last plain.
    let soon = in_time_lem J _ _ _ _ c.args.frame task passed whole last plain c.requires.0 c.shortest.result
    c.shortest.ensures _ c.in_ok-best.was in
    let late = c.if-wide-best.true in
    let wide = c.wide.ensures.0 in
    absurd (omega arith)

pub walk_on-w-requires : goal.walk_on-w-requires
walk_on-w-requires c =
    let soon = c.if-wide-best.false in
    let wide = c.wide.ensures.0 in
    let horizon = c.requires.0.horizon in
    let same : c.in_ok-best.best.end % 65536 ≡ c.in_ok-best.best.end = mod-eq_of_lt (omega arith) in
    let within : c.in_ok-best.best.end % 65536 ≤ c.args.frame.horizon = omega arith in
    let e = c.until.ensures in (
      subst (Whole _ _ _) (sym e) (whole_up_to _ _ _ c.args.frame _ within c.requires.0),
      subst (Kept c.until.result) (sym c.none.ensures) (kept_none c.until.result),
      ap (λ (f : Frame). f.origin) e ∙ c.requires.1,
      tails_up_to _ _ _ c.args.frame c.until.result _ e c.fill.ensures,
    )

pub returns : goal.returns
returns c =
    λ J task passed whole last plain.
    let soon = c.if-wide-best.false in
    let wide = c.wide.ensures.0 in
    let horizon = c.requires.0.horizon in
    let same : c.in_ok-best.best.end % 65536 ≡ c.in_ok-best.best.end = mod-eq_of_lt (omega arith) in
    page_of_walk J _ _ _ _ c.args.frame task passed whole last plain c.requires.0 c.shortest.result
    c.shortest.ensures _ c.in_ok-best.was c.args.place _ same c.walk_on-w.result
    _ c.until.ensures _ c.none.ensures c.walk_on-w.ensures
