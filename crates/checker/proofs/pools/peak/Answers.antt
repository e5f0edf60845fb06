-- `peak` meets its contract: the most that is in use at the first i starts.
use mathlib.Core.Path.{◌≡◌, refl, sym, ap₂, ◌∙◌}
use Prim.Native.Nat.{max}
use Rattle.lists.specs.Lists.{tabulate}
use Rattle.timeline.specs.Value.{step_at, steps_of}
use Rattle.timeline.proofs.Peaks.{peak_at_start}
use Rattle.checker.proofs.Loops.{largest_more}
use native.Mathlib.Omega.{arith}
use Rattle.std.proofs.lemmas.Grind.{common_steps}
use Rattle.checker.proofs.Loops.{front_step}
use Rattle.checker.proofs.pools.peak.Invariants.{used_at}
use Rattle.checker.proofs.pools.peak.Goals as goal

pub loop-step-init : goal.loop-step-init
unfolding tabulate
loop-step-init c = λ J e. refl

pub loop-step-preserved : goal.loop-step-preserved
loop-step-preserved c = λ J e.
    c.max-most.ensures ∙ ap₂ max (c.loop-step.invariant J e) (rw (front_step c.args.plan _ _ c.loop-step-test.true) at (c.in_use.ensures J e))
    ∙ sym (largest_more (step_at c.args.plan) (used_at J c.args.plan c.args.pool) c.loop-step.step-index)

pub returns : goal.returns
returns c =
    let q : c.loop-step.step-index ≡ c.args.plan.length = grind (arith, common_steps) in
    λ J e. rw q at (c.loop-step.invariant J e) ∙ sym (peak_at_start J c.args.pool (steps_of c.args.plan))
