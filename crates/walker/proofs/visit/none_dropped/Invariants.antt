-- `none_dropped` meets its contract: of the first i steps none can be dropped.
use Prim.Native.Nat.{ℕ, ◌-◌, ◌≤◌, ◌<◌}
use Rattle.job.specs.Job.{Job}
use Rattle.walker.specs.Walk.{AskedOf, Kept, PlanWithout}
use Rattle.walker.proofs.visit.none_dropped.Given as goal

abbrev pub invariant-loop-i : goal.invariant-loop-i
invariant-loop-i l =
    (J : Job) → AskedOf J l.file l.frame → Kept l.frame l.steps → (k : ℕ) → k < l.i → PlanWithout J l.frame l.steps k → ⊥
