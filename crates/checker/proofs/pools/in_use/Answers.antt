-- `in_use` meets its contract: what the first i steps use.
use mathlib.Core.Path.{◌≡◌, refl, sym}
use mathlib.Core.Bool.{cond}
use lib.ListN.{get_or}
use Rattle.lists.specs.Lists.{tabulate}
use Rattle.timeline.specs.Timeline.{has_share}
use Rattle.timeline.specs.Value.{step_at}
use Rattle.checker.proofs.Loops.{total_more}
use native.Mathlib.Omega.{arith}
use Rattle.std.proofs.lemmas.Grind.{common_steps}
use Rattle.checker.proofs.Loops.{front_step}
use Prim.Native.Nat.{◌<◌}
use Rattle.checker.proofs.pools.in_use.Goals as goal

pub loop-step-init : goal.loop-step-init
unfolding tabulate
loop-step-init c = (omega arith, λ J e. refl)

pub overflow_add-sum : goal.overflow_add-sum
overflow_add-sum c =
    let s = c.share-sum.ensures.small in
    let inside : c.loop-step.step-index < c.args.plan.length = grind (arith, common_steps) in
    omega arith

pub loop-step-preserved : goal.loop-step-preserved
loop-step-preserved c =
    let a = c.args in
    let p = a.plan in
    let l = c.loop-step in
    let s = c.share-sum.ensures.small in (
      omega arith,
      λ J e.
          rw (l.invariant.1 J e, rw (front_step c.args.plan _ _ c.loop-step-test.true) at (c.share-sum.ensures.counts J p.counts e c.requires.2))
          (sym (total_more (step_at p) (λ x. cond (has_share J a.pool a.minute x)
          (get_or x.action.pools a.pool 0) 0)
          l.step-index)),
    )

pub returns : goal.returns
returns c =
    let q : c.loop-step.step-index ≡ c.args.plan.length = grind (arith, common_steps) in
    λ J e. rw q at (c.loop-step.invariant.1 J e)
