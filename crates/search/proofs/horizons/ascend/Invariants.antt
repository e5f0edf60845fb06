-- `ascend` meets its contract: no plan ends before `bound`.
use Prim.Native.Nat.{◌-◌, ◌≤◌}
use Rattle.search.specs.Horizons.{Raised}
use Rattle.search.proofs.horizons.ascend.Given as goal

abbrev pub invariant-loop-horizon : goal.invariant-loop-horizon
invariant-loop-horizon l =
    (l.horizon ≤ l.frame.horizon) × (1 ≤ l.stride) × Raised l.file l.sets l.numbers l.times l.frame l.low l.bound

abbrev pub decreases-loop-horizon : goal.decreases-loop-horizon
decreases-loop-horizon l = l.frame.horizon - l.horizon
