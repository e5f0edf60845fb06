-- `visit` meets its contract: the steps are not listed, or are the plan at the place, or stand before it.
use Rattle.std.specs.Prelude.{Some, None}
use mathlib.Core.Path.{◌≡◌, refl}
use Prim.Native.Nat.{◌-◌}
use mathlib.Core.Bool.{false}
use Rattle.leaf.specs.declared.Answer.{Answer}
use Rattle.leaf.specs.Order.{in_order}
use Rattle.walker.proofs.Walking.{own_not_listed, own_found, own_passed}
use native.Mathlib.Omega.{arith}
use Rattle.walker.proofs.visit.visit.Goals as goal

pub returns-in-None : goal.returns-in-None
returns-in-None c =
    λ J asked kept rising.
    own_not_listed J c.args.frame.goal c.args.frame.horizon (in_order J c.args.steps)
    (record { left = c.args.left; answer = None }) refl (c.listed.ensures.none c.in-None.is J asked kept rising)

pub returns-in-Some : goal.returns-in-Some
returns-in-Some c =
    λ J asked kept rising.
    let r = c.listed.ensures.found _ c.in-Some.is J asked kept rising in
    own_found J c.args.frame.goal c.args.frame.horizon (in_order J c.args.steps)
    (record { left = c.args.left; answer = Some c.in-Some.plan }) c.in-Some.plan refl r.0 r.1 c.args.left c.if-left-eq0.true

pub returns-in-Some-2 : goal.returns-in-Some-2
returns-in-Some-2 c =
    λ J asked kept rising.
    let l = c.if-left-eq0.false in
    let r = c.listed.ensures.found _ c.in-Some-2.is J asked kept rising in
    own_passed J c.args.frame.goal c.args.frame.horizon (in_order J c.args.steps)
    (record { left = c.args.left - 1; answer = None }) r.0 refl c.args.left (omega arith)
