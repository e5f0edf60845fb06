-- The bytes of a plan copied to the front of a slice.
-- Assumes nothing.
use Rattle.std.proofs.Common.{ℕ, ◌+◌, ◌*◌, ◌≤◌, ◌≡◌, List, ◌++◌, length, take, drop, arith, zero-add}
use lib.ListN.{length-take}
use Rattle.encoding.specs.Bytes.{overwrite}

-- a piece in front of what is behind it
pub copied_front : (front piece out : List ℕ) (n : ℕ) → front ≡ piece → length piece ≡ n
    → front ++ drop n out ≡ overwrite out 0 piece
unfolding overwrite
copied_front front piece out n same size = rw (same, ← size) (simp zero-add)

-- the bytes that are copied are a part of more bytes, which are at least so many
pub long_enough : (count : ℕ) (plan : List ℕ) → length (take (3 * count) plan) ≡ 3 * count → 3 * count ≤ length plan
long_enough count plan h = let l = length-take (3 * count) plan in omega arith
