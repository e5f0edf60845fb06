-- `held_at` meets its contract: at the clock's minute its facts hold.
use Rattle.std.proofs.Common.{◌≡◌}
use Rattle.timeline.specs.Timeline.{held}
use Rattle.timeline.specs.Value.{steps_of}
use Rattle.begun.proofs.held_at.Given as goal

abbrev pub invariant-loop : goal.invariant-loop
invariant-loop l = (l.clock.minute ≡ l.counter) × (l.clock.facts ≡ held l.start (steps_of l.plan) l.counter)
