-- `none_dropped` meets its contract: of the first i steps none can be dropped.
use mathlib.Core.Path.{◌≡◌, refl, sym, ◌∙◌}
use mathlib.Core.Logic.{⊎_elim}
use native.Mathlib.Nat.{eq-or-lt_of_le}
use Rattle.timeline.proofs.Tests.{not_both}
use Rattle.walker.proofs.Dropped.{dropped_plan, dropped_none}
use native.Mathlib.Omega.{arith}
use Rattle.walker.proofs.visit.none_dropped.Goals as goal

pub loop-i-init : goal.loop-i-init
loop-i-init c = λ J asked kept k l. absurd (omega arith)

pub without-requires : goal.without-requires
without-requires c =
    let m = c.requires in (omega arith, omega arith)

pub finish-requires : goal.finish-requires
finish-requires c =
    let e = c.without.ensures in
    let m = c.requires in
    rw e (omega arith)

pub returns-then-is_some : goal.returns-then-is_some
returns-then-is_some c =
    record {
      none = λ e. not_both e refl;
      some = λ e J asked kept. (
        c.loop-i.i,
        (omega arith),
        dropped_plan J _ c.args.frame asked c.args.steps kept c.loop-i.i (omega arith) c.without.result
            c.without.ensures c.finish.result c.finish.ensures (sym c.is_some.ensures ∙ c.if-is_some.true),
      );
    }

pub loop-i-preserved : goal.loop-i-preserved
loop-i-preserved c =
    λ J asked kept k m.
    ⊎_elim
    (λ e.
    let z : k ≡ c.loop-i.i = omega arith in
    rw z
    (dropped_none J _ c.args.frame asked c.args.steps kept c.loop-i.i (omega arith)
    c.without.result c.without.ensures c.finish.result c.finish.ensures (sym c.is_some.ensures ∙ c.if-is_some.false)))
    (λ less. c.loop-i.invariant J asked kept k (omega arith))
    (eq-or-lt_of_le m)

pub returns : goal.returns
returns c =
    record { none = λ e J asked kept k l. c.loop-i.invariant J asked kept k (omega arith); some = λ e. not_both refl e }
