-- Numbers as bytes and back: each law once, over the width.
-- Assumes nothing.
use Prim.Native.Nat.{ℕ, zero, suc, ◌+◌, ◌*◌, ◌/◌, ◌%◌, ◌^◌, ◌<◌}
use mathlib.Core.Path.{◌≡◌, refl, ap}
use mathlib.Core.List.{List, [], ◌∷◌}
use native.Mathlib.Nat.{pow-suc}
use native.Mathlib.Omega.{arith}
use lib.ListN.{length}
use Rattle.encoding.specs.Bytes.{from_bytes, to_bytes}
use Rattle.encoding.proofs.Parts.{Bytes}

pub length_bytes : (n x : ℕ) → length (to_bytes n x) ≡ n
unfolding to_bytes
length_bytes zero x = refl
length_bytes (suc n) x = ap suc (length_bytes n (x / 256))

pub number_bytes : (n x : ℕ) → x < 256 ^ n → from_bytes (to_bytes n x) ≡ x
unfolding from_bytes to_bytes
number_bytes zero x h = omega arith
number_bytes (suc n) x h =
    let e = pow-suc 256 n in
    let i = number_bytes n (x / 256) (omega arith) in
    omega arith

pub bytes_from_bytes : (bs : List ℕ) → Bytes bs → to_bytes (length bs) (from_bytes bs) ≡ bs
unfolding from_bytes to_bytes
bytes_from_bytes [] h = refl
bytes_from_bytes (b ∷ bs) h =
    let l = h 0 in
    let m : (b + 256 * from_bytes bs) % 256 ≡ b = omega arith in
    let d : (b + 256 * from_bytes bs) / 256 ≡ from_bytes bs = omega arith in
    rw (m, d, bytes_from_bytes bs (λ i. h (suc i)))
