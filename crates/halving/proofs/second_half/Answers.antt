-- `second_half` meets its contract: the task is the day that the first half leaves.
use mathlib.Core.Path.{◌≡◌, sym, subst}
use Rattle.job.specs.declared.Job as held
use Rattle.job.specs.Refusal.{pass}
use Rattle.job.specs.Job.{job_in}
use Rattle.job.specs.Refusal.{first}
use Rattle.job.specs.Valid.{job_rows}
use Rattle.job.proofs.Rows.{limits_of_pass}
use Rattle.solver.specs.Task.{day_of, TaskFits}
use Rattle.walker.specs.Page.{WholeTask, PageOf}
use Rattle.halving.proofs.AfternoonTask.{valid_without_reserve}
use Rattle.halving.proofs.SecondHalf.{is_checked, decoded_fits, decoded_ends, second_fits, second_is_whole, page_of_second}
use Rattle.halving.proofs.second_half.Goals as goal

pub checked_plan-requires : goal.checked_plan-requires
checked_plan-requires c = limits_of_pass _ c.requires.0

pub unwrap-checked-requires : goal.unwrap-checked-requires
unwrap-checked-requires c =
    is_checked c.args.job c.args.halfway c.args.morning.now c.requires.1 c.checked_plan.result c.checked_plan.ensures

pub afternoon-task-requires : goal.afternoon-task-requires
afternoon-task-requires c = record {
  length_bound = decoded_fits c.args.job c.args.halfway c.args.morning.now c.requires.0 c.requires.1
      c.unwrap-checked.result _ c.unwrap-checked.ensures c.checked_plan.ensures;
  plan_bound = decoded_ends c.args.job c.args.halfway c.args.morning.now c.requires.0 c.requires.1
      c.unwrap-checked.result _ c.unwrap-checked.ensures c.checked_plan.ensures;
}

pub plan_at-requires : goal.plan_at-requires
plan_at-requires c =
    let job = c.args.job in
    let task = c.afternoon-task.result in
    subst (λ (j : held.Job). (first (job_rows (job_in j)) ≡ pass) × TaskFits (day_of j task) task × WholeTask task)
    (sym c.without_reserve.ensures) (
      valid_without_reserve job c.requires.0,
      second_fits job c.args.halfway c.args.morning.now c.requires.0 c.requires.1 c.unwrap-checked.result
          _ c.unwrap-checked.ensures c.checked_plan.ensures task c.afternoon-task.ensures,
      second_is_whole job c.args.halfway c.args.morning.now c.requires.0 c.requires.1 c.unwrap-checked.result
          _ c.unwrap-checked.ensures c.checked_plan.ensures task c.afternoon-task.ensures,
    )

pub returns : goal.returns
returns c =
    let job = c.args.job in
    let task = c.afternoon-task.result in
    page_of_second job c.args.halfway c.args.morning.now c.requires.0 c.requires.1 c.unwrap-checked.result
    _ c.unwrap-checked.ensures c.checked_plan.ensures task c.afternoon-task.ensures 0 c.plan_at.result
    (subst (λ (j : held.Job). PageOf (day_of j task) task.goal 0 c.plan_at.result)
    c.without_reserve.ensures c.plan_at.ensures)
