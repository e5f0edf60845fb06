-- A joined plan has at most 32 steps.
-- Assumes nothing.
use Rattle.job.specs.Job.{job_in}
use Rattle.joining.proofs.FewSteps.{joined_steps_are_few}
use Rattle.printing.proofs.Few.{few_in_day}
use Rattle.join.proofs.fn.answer.print_answer.Goals as goal

pub returns : goal.returns
returns c = few_in_day _ (λ pass.
    joined_steps_are_few (job_in c.args.job) _ _ c.args.out.now c.join.result c.join.ensures.answers)
