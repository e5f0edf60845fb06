-- `larger_peaks` meets its contract: at the first places the larger of two.
use Rattle.std.proofs.Common.{ℕ, ◌<◌, ◌≡◌, max, length, get_or}
use Rattle.joining.proofs.told.larger_peaks.Given as goal

abbrev pub invariant-loop-pool : goal.invariant-loop-pool
invariant-loop-pool l =
    (length l.larger ≡ 4) × ((k : ℕ) → k < l.pool → get_or l.larger k 0 ≡ max (get_or l.a k 0) (get_or l.b k 0))
