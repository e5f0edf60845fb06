-- `effects_at` meets its contract: the effects of the first i steps.
use mathlib.Core.Path.{◌≡◌, refl, sym, ◌∙◌}
use Rattle.lists.specs.Lists.{tabulate}
use Rattle.timeline.specs.Timeline.{if_stops}
use Rattle.timeline.specs.Value.{step_at}
use Rattle.checker.proofs.Loops.{union_more}
use native.Mathlib.Omega.{arith}
use Rattle.std.proofs.lemmas.Grind.{common_steps}
use Rattle.checker.proofs.Loops.{front_step}
use Rattle.checker.proofs.clock.effects_at.Goals as goal

pub loop-step-init : goal.loop-step-init
unfolding tabulate
loop-step-init c = (refl, refl)

pub loop-step-preserved : goal.loop-step-preserved
loop-step-preserved c =
    let p = c.args.plan in
    let t = c.args.minute in
    let l = c.loop-step in (
      c.union-deletes.ensures.0
          ∙ rw (l.invariant.0, rw (front_step c.args.plan _ _ c.loop-step-test.true) at (c.if_stops.ensures p.counts))
          (sym (union_more (step_at p) (λ x. if_stops t x.action.deletes x) l.step-index)),
      c.union-adds.ensures.0
          ∙ rw (l.invariant.1, rw (front_step c.args.plan _ _ c.loop-step-test.true) at (c.if_stops-in-loop-step.ensures p.counts))
          (sym (union_more (step_at p) (λ x. if_stops t x.action.adds x) l.step-index)),
    )

pub returns : goal.returns
returns c =
    let e : c.loop-step.step-index ≡ c.args.plan.length = grind (arith, common_steps) in
    rw (c.loop-step.invariant.0, c.loop-step.invariant.1, e)
