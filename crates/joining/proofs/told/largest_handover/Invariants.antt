-- `largest_handover` meets its contract: the largest of the first pools.
use Rattle.std.proofs.Common.{◌≡◌, get_or}
use Rattle.timeline.specs.Timeline.{largest_below}
use Rattle.joining.proofs.told.largest_handover.Given as goal

abbrev pub invariant-loop-handover : goal.invariant-loop-handover
invariant-loop-handover l = l.most ≡ largest_below l.handover-index (λ k. get_or l.handover-items k 0)
