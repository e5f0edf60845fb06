-- The part of a slice behind a place, lent to a writer: the slice is overwritten from that place on.
-- Assumes nothing.
use Prim.Native.Nat.{ℕ, ◌+◌, ◌-◌, ◌≤◌}
use mathlib.Core.Path.{◌≡◌, sym, ap, ◌∙◌}
use mathlib.Core.List.{List, ◌++◌, append-nil, append_assoc}
use native.Mathlib.Omega.{arith}
use lib.ListN.{length, take, drop, length-drop}
use lib.Seq.{take_all, drop-length, drop-drop}
use Rattle.encoding.specs.Bytes.{overwrite}
use Rattle.encoding.proofs.Overwrite.{overwrite_overwrite, length_overwrite}

overwrite_behind : (xs : List ℕ) (at : ℕ) (B : List ℕ) → take at xs ++ overwrite (drop at xs) 0 B ≡ overwrite xs at B
unfolding overwrite
overwrite_behind xs at B =
    let n : 0 + length B ≡ length B = omega arith in
    rw (n, drop-drop (length B) at xs) (sym (append_assoc (take at xs) B _))

-- A written at the front, then B to the part behind it
pub written_behind : (o xs ys A B : List ℕ) (size : ℕ) → size ≡ length A → length A + length B ≤ length o
    → xs ≡ overwrite o 0 A → ys ≡ overwrite (take (length xs - size) (drop size xs)) 0 B
    → take size xs ++ (ys ++ drop (length xs - size) (drop size xs)) ≡ overwrite o 0 (A ++ B)
written_behind o xs ys A B size e l first second =
    let same = ap length first ∙ length_overwrite o 0 A (omega arith) in
    let n = length-drop size xs in
    let whole = take_all (length xs - size) (drop size xs) (omega arith) in
    let m : length xs - size ≡ length (drop size xs) = omega arith in
    ap (λ (zs : List ℕ). take size xs ++ zs)
    (ap (λ (k : ℕ). ys ++ drop k (drop size xs)) m
    ∙ ap (λ (zs : List ℕ). ys ++ zs) (drop-length (drop size xs))
    ∙ append-nil ys ∙ second ∙ ap (λ (zs : List ℕ). overwrite zs 0 B) whole)
    ∙ overwrite_behind xs size B
    ∙ ap (λ (zs : List ℕ). overwrite zs size B) first
    ∙ overwrite_overwrite o 0 A B size (omega arith) (omega arith)
