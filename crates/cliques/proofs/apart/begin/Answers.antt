-- `begin` meets its contract: entries before those of the facts stay.
use Prim.Native.Nat.{ℕ, ◌+◌, ◌≤◌}
use mathlib.Core.Path.{◌≡◌}
use mathlib.Core.List.{List}
use lib.ListN.{length}
use borrow.Rule.Slice.PartMut.{put_mid}
use Rattle.std.proofs.Common.{rules, arith}
use Rattle.std.proofs.lemmas.Grind.{common_steps}
use Rattle.std.proofs.lemmas.List.{places}
use Rattle.landmarks.specs.Tables.{KeptBefore}
use Rattle.cliques.proofs.apart.begin.Goals as goal

kept_when_part_put : (at count n : ℕ) (xs part : List ℕ) → length xs ≡ n → length part ≡ count → at + count ≤ n
    → KeptBefore at n xs (put_mid at count xs part)
kept_when_part_put at count n xs part size long fits =
    record { size = grind (arith, common_steps); same = λ j l. search (rules, places) }

pub returns : goal.returns
returns c = kept_when_part_put 320 64 384 _ _ c.requires (grind (arith, common_steps)) (omega arith)
