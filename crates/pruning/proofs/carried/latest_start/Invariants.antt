-- `latest_start` meets its contract: the starts of the actions before the next one are not later.
use mathlib.Core.Path.{◌≡◌}
use Rattle.pruning.specs.Carried.{LatestStart}
use Rattle.pruning.proofs.carried.latest_start.Given as goal

abbrev pub invariant-loop-k : goal.invariant-loop-k
invariant-loop-k l =
    (l.k-iterator.set ≡ l.left) × LatestStart l.numbers l.left l.st.minute l.from l.k-iterator.from l.m
