-- `used_up` meets its contract: what the first i steps use up.
use Prim.Native.Nat.{ℕ}
use mathlib.Core.Path.{◌≡◌, refl, ap, ◌∙◌}
use mathlib.Core.List.{List}
use lib.ListN.{get_or}
use Rattle.lists.specs.Lists.{tabulate}
use Rattle.job.specs.Job.{job_in}
use Rattle.job.proofs.ResourceLaws.{charged_is}
use Rattle.timeline.specs.Timeline.{store_use}
use Rattle.timeline.specs.Value.{beyond_step}
use Rattle.checker.proofs.Loops.{one_more_step}
use native.Mathlib.Omega.{arith}
use Rattle.std.proofs.lemmas.Grind.{common_steps}
use Rattle.checker.proofs.Loops.{front_step}
use Prim.Native.Nat.{◌<◌}
use Rattle.checker.proofs.rules.used_up.Goals as goal

pub loop-step-init : goal.loop-step-init
unfolding tabulate
loop-step-init c = (omega arith, refl)

pub overflow_add-sum : goal.overflow_add-sum
overflow_add-sum c =
    let small = (c.charged-amounts.ensures.1 c.args.store).0 in
    let inside : c.loop-step.step-index < c.args.plan.length = grind (arith, common_steps) in
    omega arith

pub loop-step-preserved : goal.loop-step-preserved
loop-step-preserved c =
    let a = c.args in
    let small = (c.charged-amounts.ensures.1 a.store).0 in
    let x = get_or a.plan.steps c.loop-step.step-index beyond_step in
    let amount = ap (λ (l : List ℕ). get_or l a.store 0) (rw (front_step c.args.plan _ _ c.loop-step-test.true) at c.charged-amounts.ensures.0)
    ∙ charged_is a.job x.action a.store c.requires.3 (omega arith) in (omega arith, one_more_step a.plan _ c.requires.1 (store_use (job_in a.job) a.store) c.loop-step.step-index _ _ c.loop-step.invariant.1 amount)

pub returns : goal.returns
returns c =
    let q : c.loop-step.step-index ≡ c.args.plan.length = grind (arith, common_steps) in
    rw q at c.loop-step.invariant.1
