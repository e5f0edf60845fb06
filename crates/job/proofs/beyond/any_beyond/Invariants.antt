-- `any_beyond` meets its contract: found among the first i actions.
use mathlib.Core.Path.{◌≡◌}
use Rattle.lists.specs.Lists.{tabulate, any}
use Rattle.job.specs.Job.{job_in, action_at}
use Rattle.job.specs.Valid.{uses_beyond}
use Rattle.job.proofs.beyond.any_beyond.Given as goal

abbrev pub invariant-loop-i : goal.invariant-loop-i
invariant-loop-i l = l.found ≡ any (uses_beyond (job_in l.job)) (tabulate l.i (action_at l.job))
