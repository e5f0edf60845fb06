-- `in_use` meets its contract: what the first i steps use.
use Prim.Native.Nat.{◌*◌, ◌≤◌}
use mathlib.Core.Path.{◌≡◌}
use Rattle.lists.specs.Lists.{tabulate}
use Rattle.job.specs.Job.{Job}
use Rattle.job.specs.Resources.{handover}
use Rattle.timeline.specs.Timeline.{in_use}
use Rattle.timeline.specs.Value.{step_at}
use Rattle.checker.proofs.pools.in_use.Given as goal

abbrev pub invariant-loop-step : goal.invariant-loop-step
invariant-loop-step l =
    (l.sum ≤ l.step-index * 4294967296)
    × ((J : Job) → handover J l.pool ≡ l.handover → l.sum ≡ in_use J l.pool l.minute (tabulate l.step-index (step_at l.fn.plan)))
