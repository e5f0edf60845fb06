-- `deadline` meets its contract: none of the first i steps stops late.
use mathlib.Core.Path.{◌≡◌, sym}
use mathlib.Core.List.{[]}
use borrow.Author.Tests.{lt-ltb, le-ltb}
use Rattle.lists.proofs.Any.{any_start, any_more, any_found}
use Rattle.job.specs.declared.refusal.Refusal.TheVariants.{AfterDeadline}
use Rattle.job.specs.Refusal.{first}
use Rattle.job.specs.Valid.{over}
use Rattle.job.proofs.Table.{first_here, first_next}
use Prim.Native.Nat.{◌<◌}
use Rattle.timeline.specs.Value.{step_at}
use Rattle.checker.proofs.Loops.{front_step}
use native.Mathlib.Omega.{arith}
use Rattle.std.proofs.lemmas.Grind.{common_steps}
use Rattle.checker.proofs.rules.deadline.Goals as goal

pub loop-step-init : goal.loop-step-init
loop-step-init c = any_start (λ x. over c.args.limit x.stop) (step_at c.args.plan)

pub returns-then-from-step : goal.returns-then-from-step
returns-then-from-step c =
    let p = c.args.plan in
    let i = c.loop-step.step-index in
    let inside : i < p.length = grind (arith, common_steps) in
    sym (first_here AfterDeadline _ []
    (any_found (λ x. over c.args.limit x.stop) (step_at p) i p.length inside
    (rw (c.from.ensures, front_step p _ i c.loop-step-test.true) at (lt-ltb _ _ c.if-from-step.true))))

pub loop-step-preserved : goal.loop-step-preserved
loop-step-preserved c = any_more (λ x. over c.args.limit x.stop) (step_at c.args.plan) c.loop-step.step-index c.loop-step.invariant
    (rw (c.from.ensures, front_step c.args.plan _ _ c.loop-step-test.true) at (le-ltb _ _ c.if-from-step.false))

pub returns : goal.returns
unfolding first
returns c =
    let e : c.loop-step.step-index ≡ c.args.plan.length = grind (arith, common_steps) in
    sym (first_next AfterDeadline _ [] (rw e at c.loop-step.invariant))
