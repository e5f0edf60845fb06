-- A day joined from two halves has at most 32 steps.
-- Assumes nothing.
use Rattle.job.specs.Job.{job_in}
use Rattle.halving.proofs.FewSteps.{halves_steps_are_few}
use Rattle.printing.proofs.Few.{few_in_day}
use Rattle.halves.proofs.fn.answer.print_answer.Goals as goal

pub returns : goal.returns
returns c = few_in_day _ (λ pass.
    halves_steps_are_few (job_in c.args.job) _ c.args.out.now c.halves.result _ c.halves.ensures)
