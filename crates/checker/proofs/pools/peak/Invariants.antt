-- `peak` meets its contract: the most that is in use at the first i starts.
use Prim.Native.Nat.{ℕ}
use mathlib.Core.Path.{◌≡◌}
use Rattle.lists.specs.Lists.{tabulate}
use Rattle.job.specs.Job.{Job}
use Rattle.job.specs.Resources.{handover}
use Rattle.timeline.specs.Step.{Step, largest}
use Rattle.timeline.specs.Timeline.{in_use}
use Rattle.timeline.specs.Value.{step_at, steps_of}
use Rattle.timeline.specs.declared.Plan.{Plan}
use Rattle.checker.proofs.pools.peak.Given as goal

-- what is in use of the pool where a step starts
abbrev pub used_at : Job → Plan → ℕ → Step → ℕ
used_at J plan pool x = in_use J pool x.start (steps_of plan)

abbrev pub invariant-loop-step : goal.invariant-loop-step
invariant-loop-step l =
    ((J : Job) → handover J l.pool ≡ l.handover → l.most ≡ largest (used_at J l.fn.plan l.pool) (tabulate l.step-index (step_at l.fn.plan)))
