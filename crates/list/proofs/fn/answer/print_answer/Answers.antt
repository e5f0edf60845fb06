-- A plan of the list has at most 32 steps.
-- Assumes nothing.
use Rattle.job.specs.Job.{job_in}
use Rattle.lister.proofs.FewSteps.{listed_steps_are_few}
use Rattle.printing.proofs.Few.{few_in_day}
use Rattle.list.proofs.fn.answer.print_answer.Goals as goal

pub returns : goal.returns
returns c = few_in_day _ (λ pass.
    listed_steps_are_few (job_in c.args.job) _ c.args.out.now c.list.result _ c.list.ensures)
