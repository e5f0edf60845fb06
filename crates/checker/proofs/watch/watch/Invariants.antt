-- `watch` meets its contract: up to the clock's minute no need was missing.
use Prim.Native.Nat.{◌-◌, ◌≤◌}
use Rattle.checker.proofs.WatchLaws.{Watching}
use Rattle.checker.proofs.watch.watch.Given as goal

abbrev pub invariant-loop-clock : goal.invariant-loop-clock
invariant-loop-clock l = (l.clock.minute ≤ l.last) × Watching l.start l.plan l.clock

abbrev pub decreases-loop-clock : goal.decreases-loop-clock
decreases-loop-clock l = l.last - l.clock.minute
