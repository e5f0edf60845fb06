-- `attempt` and `walk_on` end: the steps that can still be chosen fall, and `walk_on` comes before `attempt`.
use Rattle.std.specs.Prelude.{None}
use Prim.Native.Nat.{◌≤◌, ◌-◌}
use mathlib.Core.Path.{◌≡◌}
use mathlib.Core.Bool.{false}
use Rattle.walker.proofs.Attempts.{MetFrom}
use Prim.Native.Nat.{◌+◌, ◌*◌}
use Rattle.walker.proofs.walk.+attempt_walk_on.Given as goal

abbrev pub decreases-attempt : goal.decreases-attempt
decreases-attempt l = (32 - l.steps.count) * 2

abbrev pub decreases-walk_on : goal.decreases-walk_on
decreases-walk_on l = (32 - l.steps.count) * 2 + 1

abbrev pub invariant-walk_on-loop-place : goal.invariant-walk_on-loop-place
invariant-walk_on-loop-place l =
    (l.w.answer ≡ None) × (l.from ≤ l.place) × MetFrom l.file l.sets l.numbers l.times l.frame l.steps l.held l.from l.left l.w l.holds l.place

abbrev pub decreases-walk_on-loop-place : goal.decreases-walk_on-loop-place
decreases-walk_on-loop-place l = l.last - l.place
