-- `sums` meets its contract: the first places have their sums.
use Rattle.std.proofs.Common.{ℕ, ◌+◌, ◌<◌, ◌≡◌, length, get_or}
use Rattle.pooling.proofs.amounts.sums.Given as goal

abbrev pub invariant-loop-place : goal.invariant-loop-place
invariant-loop-place l =
    (length l.sums ≡ 4) × ((k : ℕ) → k < l.place → get_or l.sums k 0 ≡ get_or l.mine k 0 + get_or l.other k 0)
