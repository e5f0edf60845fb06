-- `within` meets its contract: none of the first k pools is exceeded.
use mathlib.Core.Path.{◌≡◌}
use mathlib.Core.Bool.{false}
use Rattle.lists.specs.Lists.{any_below}
use Rattle.job.specs.Job.{job_in}
use Rattle.timeline.specs.Accepted.{exceeds_pool}
use Rattle.timeline.specs.Value.{steps_of}
use Rattle.checker.proofs.pools.within.Given as goal

abbrev pub invariant-loop-k : goal.invariant-loop-k
invariant-loop-k l =
    (any_below l.k (exceeds_pool (job_in l.job) (steps_of l.plan)) ≡ false)
