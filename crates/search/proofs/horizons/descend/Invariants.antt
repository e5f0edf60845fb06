-- `descend` meets its contract: between `bound` and the plan's end lies the least end.
use Prim.Native.Nat.{◌-◌, ◌≤◌}
use Rattle.search.specs.Horizons.{Raised, FoundBy}
use Rattle.search.proofs.horizons.descend.Given as goal

abbrev pub invariant-loop-bound : goal.invariant-loop-bound
invariant-loop-bound l =
    (l.plan.end ≤ l.frame.horizon) × Raised l.file l.sets l.numbers l.times l.frame l.low l.bound
    × (FoundBy l.file l.sets l.numbers l.times l.frame l.initial.plan → FoundBy l.file l.sets l.numbers l.times l.frame l.plan)

abbrev pub decreases-loop-bound : goal.decreases-loop-bound
decreases-loop-bound l = l.plan.end - l.bound
