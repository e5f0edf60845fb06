-- `put_shortest` meets its contract: the first i lengths stand behind those of the array.
use Prim.Native.Nat.{ℕ}
use mathlib.Core.Path.{◌≡◌}
use mathlib.Core.List.{List, ◌++◌}
use lib.ListN.{length}
use Rattle.lists.specs.Lists.{tabulate, filled}
use Rattle.job.specs.Job.{job_in}
use Rattle.job.specs.Lengths.{shortest_of}
use Rattle.pooling.proofs.actions.put_shortest.Given as goal

abbrev pub invariant-loop-i : goal.invariant-loop-i
invariant-loop-i l =
    (xs : List ℕ) → length xs ≡ l.at → l.fn.out ≡ filled 64 0 xs
    → l.out ≡ filled 64 0 (xs ++ tabulate l.i (shortest_of (job_in l.job)))
