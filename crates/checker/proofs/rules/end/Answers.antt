-- `end` meets its contract: the latest stop of the first i steps.
use mathlib.Core.Path.{◌≡◌, refl, sym, ◌∙◌}
use Rattle.lists.specs.Lists.{tabulate}
use Rattle.timeline.specs.Value.{step_at}
use Rattle.checker.proofs.Loops.{front_step, largest_more}
use native.Mathlib.Omega.{arith}
use Rattle.std.proofs.lemmas.Grind.{common_steps}
use Rattle.checker.proofs.rules.end.Goals as goal

pub loop-step-init : goal.loop-step-init
unfolding tabulate
loop-step-init c = refl

pub loop-step-preserved : goal.loop-step-preserved
loop-step-preserved c =
    let l = c.loop-step in
    (rw (front_step c.args.plan _ l.step-index c.loop-step-test.true) at c.max-latest.ensures)
    ∙ rw l.invariant (sym (largest_more (step_at c.args.plan) (λ x. x.stop) l.step-index))

pub returns : goal.returns
returns c =
    let e : c.loop-step.step-index ≡ c.args.plan.length = grind (arith, common_steps) in
    rw e at c.loop-step.invariant
