-- A plan that is handed out has at most 32 steps.
-- Assumes nothing.
use Rattle.job.specs.Job.{job_in}
use Rattle.planner.proofs.Shortest.{plan_is_shortest}
use Rattle.printing.proofs.Few.{few_in_day}
use Rattle.day.proofs.fn.main.print_answer.Goals as goal

pub returns : goal.returns
returns c = few_in_day _ (λ pass.
    (plan_is_shortest (job_in c.args.job) c.args.out.now c.plan.result _ c.plan.ensures pass).few)
