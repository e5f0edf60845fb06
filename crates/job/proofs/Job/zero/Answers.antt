-- `Job::zero` meets its contract.
use Rattle.job.proofs.Job.zero.Goals as goal

pub returns : goal.returns
returns c = rw c.unused-unused.ensures
