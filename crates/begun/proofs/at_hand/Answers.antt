-- `at_hand` meets its contract: what the first i steps add that still run is there.
use Rattle.std.proofs.Common.{◌≡◌, ◌<◌, refl, sym, ap, ap₂, ◌∙◌, cond, arith, get_or-take}
use Rattle.std.proofs.lemmas.Grind.{common_steps}
use Rattle.lists.specs.Lists.{tabulate}
use Rattle.facts.specs.FactSet.{union}
use Rattle.timeline.specs.Value.{step_at, steps_of, beyond_step}
use Rattle.checker.proofs.Loops.{union_more}
use Rattle.begun.specs.RestOfDay.{runs_in}
use Rattle.begun.proofs.Running.{union_of_running}
use Rattle.begun.proofs.at_hand.Goals as goal

pub loop-step-init : goal.loop-step-init
unfolding tabulate
loop-step-init c = refl

pub loop-step-preserved : goal.loop-step-preserved
loop-step-preserved c =
    let plan = c.args.plan in
    let M = c.args.minute in
    let i = c.loop-step.step-index in
    let inside : i < plan.length = grind (arith, common_steps) in
    let item = get_or-take plan.length plan.steps i beyond_step inside in
    c.union-added.ensures.0 ∙ ap₂ union c.loop-step.invariant (rw (c.from-now.ensures, item) at c.when.ensures)
    ∙ sym (union_more (step_at plan) (λ x. cond (runs_in M x) x.action.adds 0) i)

pub returns : goal.returns
returns c =
    let plan = c.args.plan in
    let M = c.args.minute in
    let all : c.loop-step.step-index ≡ plan.length = grind (arith, common_steps) in
    c.union.ensures.0
    ∙ ap (union c.args.held)
    ((rw all at c.loop-step.invariant) ∙ union_of_running (λ x. x.action.adds) M (steps_of plan))
