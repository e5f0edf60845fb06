-- `lacks_need` meets its contract: none of the first i steps lacks a need.
use mathlib.Core.Path.{◌≡◌, sym}
use Rattle.lists.proofs.Any.{any_start, any_more, any_found}
use Rattle.timeline.specs.Value.{step_at}
use Rattle.checker.specs.Watch.{lacks_at}
use native.Mathlib.Omega.{arith}
use Rattle.std.proofs.lemmas.Grind.{common_steps}
use Rattle.checker.proofs.Loops.{front_step}
use Prim.Native.Nat.{◌<◌}
use Rattle.checker.proofs.watch.lacks_need.Goals as goal

pub loop-step-init : goal.loop-step-init
loop-step-init c = any_start (lacks_at c.args.clock) (step_at c.args.plan)

pub returns-then-step-clock : goal.returns-then-step-clock
returns-then-step-clock c =
    let p = c.args.plan in
    let inside : c.loop-step.step-index < p.length = grind (arith, common_steps) in
    sym (any_found (lacks_at c.args.clock) (step_at p) c.loop-step.step-index p.length inside
    (rw (c.subset.ensures.0, front_step c.args.plan _ _ c.loop-step-test.true) at c.if-step-clock.true))

pub loop-step-preserved : goal.loop-step-preserved
loop-step-preserved c = any_more (lacks_at c.args.clock) (step_at c.args.plan) c.loop-step.step-index c.loop-step.invariant
    (rw (c.subset.ensures.0, front_step c.args.plan _ _ c.loop-step-test.true) at c.if-step-clock.false)

pub returns : goal.returns
returns c =
    let e : c.loop-step.step-index ≡ c.args.plan.length = grind (arith, common_steps) in
    sym (rw e at c.loop-step.invariant)
