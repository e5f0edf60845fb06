-- `used_up` meets its contract: what the first i steps use up.
use Prim.Native.Nat.{◌*◌, ◌≤◌}
use mathlib.Core.Path.{◌≡◌}
use Rattle.lists.specs.Lists.{tabulate}
use Rattle.job.specs.Job.{job_in}
use Rattle.timeline.specs.Timeline.{used_up}
use Rattle.timeline.specs.Value.{step_at}
use Rattle.checker.proofs.rules.used_up.Given as goal

abbrev pub invariant-loop-step : goal.invariant-loop-step
invariant-loop-step l =
    (l.sum ≤ l.step-index * 34359738368)
    × (l.sum ≡ used_up (job_in l.job) l.store (tabulate l.step-index (step_at l.fn.plan)))
