-- `kept_steps` meets its contract: of the first steps those that start before the minute are kept.
use Prim.Native.Nat.{ℕ, ◌<◌}
use mathlib.Core.Path.{◌≡◌, subst}
use Rattle.std.proofs.lemmas.Grind.{common_steps}
use Rattle.checker.proofs.Loops.{front_step}
use Rattle.replanner.specs.Kept.{Keeps}
use Rattle.replanner.proofs.KeptSteps.{keeps_none, keeps_next}
use native.Mathlib.Omega.{arith}
use Rattle.replanner.proofs.kept.kept_steps.Goals as goal

pub loop-step-init : goal.loop-step-init
loop-step-init c = rw c.none-kept.ensures (keeps_none c.args.plan c.args.minute)

pub with_step-kept-requires : goal.with_step-kept-requires
with_step-kept-requires c =
    let plan = c.args.plan in
    let i = c.loop-step.step-index in
    let inside : i < plan.length = grind (arith, common_steps) in
    let few = c.loop-step.invariant.few in
    let most = c.requires.0 in
    (omega arith, rw (front_step plan _ i c.loop-step-test.true) (c.requires.1 i inside))

pub loop-step-preserved : goal.loop-step-preserved
loop-step-preserved c =
    let plan = c.args.plan in
    let i = c.loop-step.step-index in
    let inside : i < plan.length = grind (arith, common_steps) in
    let most = c.requires.0 in
    let next = rw (front_step plan _ i c.loop-step-test.true) at c.with_step-kept.ensures in
    keeps_next plan c.args.minute i c.loop-step.kept c.loop-step.invariant (omega arith) _ next.0 next.1

pub returns : goal.returns
returns c =
    let all : c.loop-step.step-index ≡ c.args.plan.length = grind (arith, common_steps) in
    subst (λ (n : ℕ). Keeps c.args.plan n c.args.minute c.loop-step.kept) all c.loop-step.invariant
