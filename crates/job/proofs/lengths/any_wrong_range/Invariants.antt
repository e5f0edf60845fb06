-- `any_wrong_range` meets its contract: found among the first i actions.
use mathlib.Core.Path.{◌≡◌}
use Rattle.lists.specs.Lists.{any_below}
use Rattle.job.specs.Job.{job_in}
use Rattle.job.specs.Valid.{has_wrong_range}
use Rattle.job.proofs.lengths.any_wrong_range.Given as goal

abbrev pub invariant-loop-i : goal.invariant-loop-i
invariant-loop-i l = l.found ≡ any_below l.i (has_wrong_range (job_in l.job))
