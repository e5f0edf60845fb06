-- `put_minutes` meets its contract: the minutes stand in front of the zeros.
use mathlib.Core.Path.{ap, ◌∙◌}
use mathlib.Core.List.{List, ◌++◌}
use Prim.Native.Nat.{ℕ}
use lib.ListN.{length, drop}
use Rattle.reader.proofs.Amounts.{minutes_put}
use Rattle.reader.proofs.decode.put_minutes.Goals as goal

pub returns : goal.returns
returns c =
    let bytes = c.args.bytes.now in
    let out = c.args.out.now in
    ap (λ (xs : List ℕ). xs ++ drop (length bytes) out) c.copy_from_slice.ensures.after
    ∙ ap (λ (xs : List ℕ). bytes ++ drop (length bytes) xs) c.requires.0
    ∙ minutes_put (length out) bytes
