-- `any_too_long` meets its contract: found among the first k handovers.
use mathlib.Core.Path.{◌≡◌}
use lib.ListN.{get_or}
use Rattle.lists.specs.Lists.{any_below}
use Rattle.job.specs.Valid.{over}
use Rattle.job.proofs.validate.any_too_long.Given as goal

abbrev pub invariant-loop-k : goal.invariant-loop-k
invariant-loop-k l = l.found ≡ any_below l.k (λ k. over 30 (get_or l.handovers k 0))
