-- `fit_together` meets its contract: none of the first k pools is exceeded.
use Rattle.std.proofs.Common.{◌+◌, ◌≡◌, false, get_or}
use Rattle.lists.specs.Lists.{any_below}
use Rattle.job.specs.Valid.{over}
use Rattle.earliest.proofs.allowed.fit_together.Given as goal

abbrev pub invariant-loop-k : goal.invariant-loop-k
invariant-loop-k l =
    any_below l.k (λ i. over (get_or l.available i 0) (get_or l.a.pools i 0 + get_or l.b.pools i 0)) ≡ false
