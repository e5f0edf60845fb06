-- `rest_actions` meets its contract: what is left of the first i steps is there.
use Rattle.std.proofs.Common.{◌<◌, ◌≤◌, sym, ap, ◌∙◌, List, [], ◌∷◌, ◌++◌, arith, get_or-take}
use Rattle.std.proofs.lemmas.Grind.{common_steps}
use Rattle.job.specs.Job.{Action}
use Rattle.timeline.specs.Value.{step_at, beyond_step}
use Rattle.begun.proofs.RestActions.{begun_at, rests_of, rests_more, rests_of_none}
use Rattle.begun.proofs.rest_actions.Goals as goal

pub loop-step-init : goal.loop-step-init
loop-step-init c =
    let plan = c.args.plan in
    rests_of_none _ c.none-extra.ensures c.args.minute plan.counts (step_at plan)

pub with_rest-extra-requires : goal.with_rest-extra-requires
with_rest-extra-requires c =
    let plan = c.args.plan in
    let i = c.loop-step.step-index in
    let inside : i < plan.length = grind (arith, common_steps) in
    let few : plan.length ≤ 32 = c.requires.0 in
    let item = get_or-take plan.length plan.steps i beyond_step inside in (
      omega arith,
      c.loop-step.invariant.1,
      rw (c.from-now.ensures, item) (begun_at c.args.minute plan.length (step_at plan) c.requires.1 i inside),
    )

pub loop-step-preserved : goal.loop-step-preserved
loop-step-preserved c =
    let plan = c.args.plan in
    let i = c.loop-step.step-index in
    let more = c.with_rest-extra.ensures in
    let count = more.count in
    let inv = c.loop-step.invariant in
    let last : List Action = rests_of c.args.minute (step_at plan i ∷ []) in
    let inside : i < plan.length = grind (arith, common_steps) in
    let item = get_or-take plan.length plan.steps i beyond_step inside in (
      omega arith,
      more.room,
      (rw (c.from-now.ensures, item) at (more.actions plan.counts)) ∙ ap (λ (done : List Action). done ++ last) inv.2
          ∙ sym (rests_more c.args.minute i (step_at plan)),
    )
