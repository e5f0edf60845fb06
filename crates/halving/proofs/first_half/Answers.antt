-- `first_half` meets its contract: the task is the whole day of the job, for the halfway set.
use mathlib.Core.Path.{ap, ◌∙◌}
use Rattle.tables.specs.declared.Steps.{Steps}
use Rattle.solver.specs.Task.{begun_day}
use Rattle.halving.proofs.HalfwayTask.{halfway_fits, halfway_is_whole, page_of_halfway}
use Rattle.halving.proofs.first_half.Goals as goal

pub plan_at-requires : goal.plan_at-requires
plan_at-requires c =
    let job = c.args.job in
    let is = c.begun.ensures ∙ ap (λ (k : Steps). begun_day job c.args.halfway 0 k) c.none.ensures in (
      c.requires.0,
      halfway_fits job c.args.halfway c.begun.result is c.requires.0 c.requires.1,
      halfway_is_whole job c.args.halfway c.begun.result is,
    )

pub returns : goal.returns
returns c =
    let job = c.args.job in
    let is = c.begun.ensures ∙ ap (λ (k : Steps). begun_day job c.args.halfway 0 k)
    c.none.ensures in
    page_of_halfway job c.args.halfway c.begun.result is 0 c.plan_at.result c.plan_at.ensures
