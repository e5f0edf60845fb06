-- The loop of `read_number`: the bytes from the last to the first.
-- Assumes nothing.
use Prim.Native.Nat.{ℕ, suc, ◌+◌, ◌*◌, ◌-◌, ◌^◌, ◌≤◌, ◌<◌}
use mathlib.Core.Path.{◌≡◌}
use mathlib.Core.List.{List}
use native.Mathlib.Nat.{pow-le-pow_right, pow-suc}
use native.Mathlib.Omega.{arith}
use lib.ListN.{length, get_or}
use lib.Seq.{drop-cons}
use Rattle.encoding.specs.Bytes.{from_bytes, part}

pub number_step : (bs : List ℕ) (at n : ℕ) → at < length bs → from_bytes (part bs at (suc n))
    ≡ get_or bs at 0 + 256 * from_bytes (part bs (suc at) n)
unfolding from_bytes
number_step bs at n h = rw (drop-cons bs at 0)

-- at byte i, with the number x read so far
abbrev pub Reading : List ℕ → ℕ → ℕ → ℕ → ℕ → Type 0
Reading bs at n i x = (i ≤ n) × (x ≡ from_bytes (part bs (at + i) (n - i))) × (x < 256 ^ (n - i))

pub reading_none : (bs : List ℕ) (at n : ℕ) → Reading bs at n n 0
unfolding from_bytes
reading_none bs at n =
    let e : n - n ≡ 0 = omega arith in
    (omega arith, rw e, rw e (omega arith))

pub reading_more : (bs : List ℕ) (at n i x : ℕ) → at + n ≤ length bs → get_or bs (at + (i - 1)) 0 < 256 → 0 < i
    → Reading bs at n i x → Reading bs at n (i - 1) (x * 256 + get_or bs (at + (i - 1)) 0)
reading_more bs at n i x l b z r =
    let e : n - (i - 1) ≡ suc (n - i) = omega arith in
    let f : suc (at + (i - 1)) ≡ at + i = omega arith in
    let q = number_step bs (at + (i - 1)) (n - i) (omega arith) in
    let q2 : from_bytes (part bs (at + (i - 1)) (suc (n - i)))
    ≡ get_or bs (at + (i - 1)) 0 + 256 * from_bytes (part bs (at + i) (n - i)) = rw f at q in
    let w = pow-suc 256 (n - i) in
    let r1 = r.1 in
    let r2 = r.2 in
    (omega arith, rw e (omega arith), rw e (omega arith))

pub reading_fits : (k x : ℕ) → k ≤ 7 → x < 256 ^ k → x < 256 ^ 7
reading_fits k x h l = let m : 256 ^ k ≤ 256 ^ 7 = pow-le-pow_right (omega arith) h in omega arith
