-- `clashes_earlier` meets its contract: no step before place j clashes.
use mathlib.Core.Path.{◌≡◌, sym, ◌∙◌}
use Rattle.lists.proofs.Any.{any_start, any_more, any_found}
use Rattle.timeline.specs.Accepted.{clashing}
use Rattle.timeline.specs.Value.{step_at}
use native.Mathlib.Omega.{arith}
use Rattle.std.proofs.lemmas.Grind.{common_steps}
use Rattle.checker.proofs.Loops.{front_step}
use Prim.Native.Nat.{◌<◌}
use Rattle.checker.proofs.rules.clashes_earlier.Goals as goal

pub loop-other-init : goal.loop-other-init
loop-other-init c =
    let p = c.args.plan in
    any_start (λ x. clashing x (step_at p c.args.i)) (step_at p)

pub returns-then-clashing : goal.returns-then-clashing
returns-then-clashing c =
    let p = c.args.plan in
    let i = c.args.i in
    let inside : c.loop-other.other-index < i = grind (arith, common_steps) in
    sym (any_found (λ x. clashing x (step_at p i)) (step_at p) c.loop-other.other-index i inside
    (sym (rw (front_step p _ _ c.loop-other-test.true) at (c.clashing.ensures p.counts)) ∙ c.if-clashing.true))

pub loop-other-preserved : goal.loop-other-preserved
loop-other-preserved c =
    let p = c.args.plan in
    let i = c.args.i in any_more (λ x. clashing x (step_at p i)) (step_at p) c.loop-other.other-index c.loop-other.invariant
    (sym (rw (front_step p _ _ c.loop-other-test.true) at (c.clashing.ensures p.counts)) ∙ c.if-clashing.false)

pub returns : goal.returns
returns c =
    let e : c.loop-other.other-index ≡ c.args.i = grind (arith, common_steps) in
    sym (rw e at c.loop-other.invariant)
