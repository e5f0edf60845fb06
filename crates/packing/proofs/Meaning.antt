-- What follows for a caller: the parts of an answer are told apart.
-- Assumes nothing.
use Prim.Native.Nat.{ℕ, ◌+◌, ◌*◌, ◌/◌, ◌%◌, ◌<◌}
use mathlib.Core.Path.{◌≡◌}
use native.Mathlib.Omega.{arith}
use Rattle.packing.specs.Answer.{packed, cost}

-- answers whose kind, refusal and end fit their bits are the same only if each part is
pub parts_told_apart : (k n e s k2 n2 e2 s2 : ℕ) → k < 256 → n < 256 → e < 4294967296
    → k2 < 256 → n2 < 256 → e2 < 4294967296 → packed k n e s ≡ packed k2 n2 e2 s2
    → (k ≡ k2) × (n ≡ n2) × (e ≡ e2) × (s ≡ s2)
unfolding packed
parts_told_apart k n e s k2 n2 e2 s2 hk hn he hk2 hn2 he2 same =
    let above_kind : n + 256 * e + 1099511627776 * s ≡ n2 + 256 * e2 + 1099511627776 * s2 = omega arith in
    let above_number : e + 4294967296 * s ≡ e2 + 4294967296 * s2 = omega arith in
    let steps : s ≡ s2 = omega arith in
    let ends : e ≡ e2 = omega arith in
    let numbers : n ≡ n2 = omega arith in
    (omega arith, numbers, ends, steps)

-- the cents of a price are told by division, its kind by the rest
pub price_told_apart : (cents : ℕ) → (cost cents % 256 ≡ 0) × (cost cents / 256 ≡ cents)
unfolding cost
price_told_apart cents = (omega arith, omega arith)
