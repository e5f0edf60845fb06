-- `with_lengths` meets its contract: the first i steps have their new lengths.
use Prim.Native.Nat.{ℕ, ◌<◌}
use mathlib.Core.Path.{◌≡◌}
use lib.ListN.{length, get_or}
use Rattle.timeline.specs.TrueLengths.{with_length}
use Rattle.timeline.specs.Value.{beyond_step, step_of_value, step_at}
use Rattle.true_day.proofs.with_lengths.Given as goal

abbrev pub invariant-loop-i : goal.invariant-loop-i
invariant-loop-i l =
    (length l.steps ≡ 32)
    × ((k : ℕ) → k < l.i
    → step_of_value l.plan.counts (get_or l.steps k beyond_step) ≡ with_length (step_at l.plan k) (get_or l.lengths k 0))
