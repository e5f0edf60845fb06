-- `amounts` meets its contract: the first i are written.
use mathlib.Core.Path.{◌≡◌}
use lib.ListN.{length}
use Rattle.lists.specs.Lists.{firsts}
use Rattle.encoding.specs.Bytes.{overwrite}
use Rattle.jobfile.specs.File.{amount_bytes}
use Rattle.writer.proofs.encode.amounts.Given as goal

abbrev pub invariant-loop-i : goal.invariant-loop-i
invariant-loop-i l =
    (l.out ≡ overwrite l.initial.out l.at (amount_bytes (firsts l.i 0 l.xs))) × (length l.out ≡ length l.initial.out)
