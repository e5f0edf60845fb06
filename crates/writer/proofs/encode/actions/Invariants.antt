-- `actions` meets its contract: the first i are written.
use mathlib.Core.Path.{◌≡◌}
use lib.ListN.{length}
use Rattle.lists.specs.Lists.{tabulate}
use Rattle.encoding.specs.Bytes.{joined, overwrite}
use Rattle.job.specs.Job.{action_at}
use Rattle.jobfile.specs.File.{action_bytes}
use Rattle.writer.proofs.encode.actions.Given as goal

abbrev pub invariant-loop-i : goal.invariant-loop-i
invariant-loop-i l =
    (l.out ≡ overwrite l.initial.out l.at (joined action_bytes (tabulate l.i (action_at l.job))))
    × (length l.out ≡ length l.initial.out)
