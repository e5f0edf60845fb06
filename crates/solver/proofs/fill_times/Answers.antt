-- `fill_times` meets its contract: the rest of the day is a job value with actions behind its own.
use Prim.Native.Nat.{◌≤◌}
use mathlib.Core.Path.{sym, ap, ◌∙◌, subst}
use lib.ListN.{length, length-replicate}
use Rattle.job.specs.declared.Job as value
use Rattle.job.specs.Job.{Fits}
use Rattle.times.specs.Numbers.{none}
use Rattle.solver.proofs.RestLaws.{plan_has_begun, rest_times}
use Rattle.solver.proofs.fill_times.Goals as goal

pub rest_actions-extra-requires : goal.rest_actions-extra-requires
rest_actions-extra-requires c =
    let plan = c.kept_plan-plan.ensures in (
      plan.0,
      plan_has_begun c.args.day c.args.kept c.args.minute c.requires.4 c.kept_plan-plan.result plan.1 plan.2,
    )

pub fill-requires : goal.fill-requires
fill-requires c =
    let pre = c.requires in
    let same = c.resumed-rest.ensures in (
      pre.0,
      record {
        facts = subst (λ (j : value.Job). j.facts ≤ 64) (sym same) pre.1;
        counts = subst (λ (j : value.Job). Fits j.counts) (sym same) pre.2;
        count = c.rest_actions-extra.ensures.0;
      },
    )

pub shape_of-times : goal.shape_of-times
shape_of-times c =
    c.fill.ensures.able.kept.whole ∙ sym (ap length c.requires.0 ∙ length-replicate 2080 none)

pub returns : goal.returns
returns c =
    let plan = c.kept_plan-plan.ensures in
    rest_times c.args.day c.args.kept c.args.minute c.requires.4 c.kept_plan-plan.result plan.1 plan.2
    c.held_at-held.result _ c.resumed-rest.result c.rest_actions-extra.result _ c.at_hand.result c.held_at-held.ensures
    c.resumed-rest.ensures c.rest_actions-extra.ensures.2 c.fill.ensures c.at_hand.ensures
