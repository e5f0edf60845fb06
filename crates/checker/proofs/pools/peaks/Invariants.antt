-- `peaks` meets its contract: the peaks of the first k pools, zeros behind them.
use mathlib.Core.Path.{◌≡◌}
use lib.ListN.{length}
use Rattle.lists.specs.Lists.{tabulate, filled}
use Rattle.job.specs.Job.{Job}
use Rattle.job.specs.Resources.{HandoversOf}
use Rattle.timeline.specs.Timeline.{peak}
use Rattle.timeline.specs.Value.{steps_of}
use Rattle.checker.proofs.pools.peaks.Given as goal

abbrev pub invariant-loop-k : goal.invariant-loop-k
invariant-loop-k l =
    ((J : Job) → length J.pools ≡ l.fn.job.counts.pools → HandoversOf J l.handovers
    → l.out ≡ filled 4 0 (tabulate l.k (λ pool. peak J pool (steps_of l.plan))))
