-- `contents` meets its contract: the first k numbers are written.
use mathlib.Core.Path.{◌≡◌}
use lib.ListN.{length}
use Rattle.lists.specs.Lists.{firsts}
use Rattle.encoding.specs.Bytes.{to_bytes, joined, overwrite}
use Rattle.writer.proofs.encode.contents.Given as goal

abbrev pub invariant-loop-k : goal.invariant-loop-k
invariant-loop-k l =
    (l.out ≡ overwrite l.initial.out 0 (joined (to_bytes 2) (firsts l.k 0 l.xs))) × (length l.out ≡ length l.initial.out)
