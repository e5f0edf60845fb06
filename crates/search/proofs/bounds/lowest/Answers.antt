-- `lowest` meets its contract: the goal's earliest time and the first free minute bound the end.
use Rattle.search.proofs.HorizonBounds.{raised_to_goal, raised_to_lowest}
use native.Mathlib.Omega.{arith}
use Rattle.search.proofs.bounds.lowest.Goals as goal

pub returns-then-time-gt-LATEST : goal.returns-then-time-gt-LATEST
returns-then-time-gt-LATEST c =
    λ file sets numbers.
    raised_to_goal file sets numbers _ c.args.frame _ c.set_time-time.ensures c.if-time-gt-LATEST.true

pub returns : goal.returns
returns c =
    λ file sets numbers.
    raised_to_lowest file sets numbers _ c.args.frame _ _ c.set_time-time.ensures c.if-time-gt-LATEST.false (omega arith)
