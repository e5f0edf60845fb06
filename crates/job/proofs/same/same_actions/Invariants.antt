-- `same_actions` meets its contract: the actions before place i agree.
use Prim.Native.Nat.{ℕ, ◌<◌}
use mathlib.Core.Path.{◌≡◌}
use lib.ListN.{get_or}
use Rattle.job.specs.Job.{beyond, action_in}
use Rattle.job.proofs.same.same_actions.Given as goal

abbrev pub invariant-loop-i : goal.invariant-loop-i
invariant-loop-i l =
    (k : ℕ) → k < l.i → action_in l.counts (get_or l.a k beyond) ≡ action_in l.counts (get_or l.b k beyond)
