-- `put` meets its contract: the first i actions stand behind those of the array.
use Prim.Native.Nat.{ℕ}
use mathlib.Core.Path.{◌≡◌}
use mathlib.Core.List.{List, ◌++◌, map}
use lib.ListN.{length}
use Rattle.lists.specs.Lists.{tabulate}
use Rattle.job.specs.Job.{Action, action_at}
use Rattle.pooling.specs.Pooled.{renumbered}
use Rattle.pooling.specs.Inner.{Widens, HasActions}
use Rattle.pooling.proofs.actions.put.Given as goal

abbrev pub invariant-loop-i : goal.invariant-loop-i
invariant-loop-i l =
    (xs : List Action) (pools stores : ℕ) → length xs ≡ l.at → HasActions l.fn.out xs → Widens l.job.counts pools stores
    → HasActions l.out (xs ++ map (renumbered l.facts pools stores) (tabulate l.i (action_at l.job)))
