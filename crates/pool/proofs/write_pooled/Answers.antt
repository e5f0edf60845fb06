-- The file is within what was lent to the writer.
-- Assumes nothing.
use Rattle.job.specs.Job.{job_in}
use Rattle.pool.proofs.Within.{written_within}
use Rattle.pool.proofs.write_pooled.Goals as goal

pub returns : goal.returns
returns c = written_within (job_in c.in_ok-pooled.pooled) _ _ _ c.write.ensures
