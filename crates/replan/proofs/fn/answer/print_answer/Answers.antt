-- A plan that is handed out has at most 32 steps.
-- Assumes nothing.
use Rattle.job.specs.Job.{job_in}
use Rattle.replanner.proofs.Shortest.{replan_is_shortest}
use Rattle.printing.proofs.Few.{few_in_day}
use Rattle.replan.proofs.fn.answer.print_answer.Goals as goal

pub returns : goal.returns
returns c = few_in_day _ (λ pass.
    (replan_is_shortest (job_in c.args.job) _ _ _ c.args.out.now
    c.replan.result _ c.replan.ensures pass).few)
