-- `action_at` meets its contract: action i ends where i + 1 actions end.
use Prim.Native.Nat.{ℕ, ◌+◌, ◌-◌, ◌*◌, ◌/◌, ◌≤◌, ◌<◌}
use mathlib.Core.Path.{◌≡◌, ap, ◌∙◌}
use native.Mathlib.Nat.{suc-mul, div-le_self}
use native.Mathlib.Numerals.{add-one}
use native.Mathlib.Omega.{arith}
use lib.ListN.{length}
use Rattle.encoding.proofs.Parts.{length_part}
use Rattle.encoding.proofs.Pieces.{piece_within}
use Rattle.reader.proofs.action.action_at.Goals as goal

next-end : (i s : ℕ) → (i + 1) * s ≡ i * s + s
next-end i s = ap (λ (k : ℕ). k * s) (add-one i) ∙ suc-mul i s

-- action i of those of size s in m bytes ends within them
ends-within : (m s i : ℕ) → i < m / s → (i + 1) * s ≤ m
ends-within m s i h = let e = next-end i s in let w = piece_within m s i h in omega arith

-- action i of those of size s begins at i * s, and s bytes lie between its ends
start_is : (i s : ℕ) → (i + 1) * s - s ≡ i * s
start_is i s = let e = next-end i s in omega arith

width_is : (i s : ℕ) → (i + 1) * s - ((i + 1) * s - s) ≡ s
width_is i s = let e = next-end i s in omega arith

pub overflow_add-end : goal.overflow_add-end
overflow_add-end c =
    let a = c.args in
    let h = c.requires.3 in
    let d = div-le_self (length a.bytes.now) a.size in
    omega arith

pub overflow_mul-end : goal.overflow_mul-end
overflow_mul-end c =
    let a = c.args in
    let w = ends-within (length a.bytes.now) a.size a.i c.requires.3 in
    omega arith

pub overflow_sub-at : goal.overflow_sub-at
overflow_sub-at c = let e = next-end c.args.i c.args.size in omega arith

pub action-requires : goal.action-requires
action-requires c =
    let a = c.args in
    let h = c.requires in
    let l = length_part a.bytes.now (a.i * a.size) a.size
    (piece_within (length a.bytes.now) a.size a.i h.3) in
    (h.0, h.1, rw (width_is a.i a.size, start_is a.i a.size) (l ∙ h.2))

pub returns : goal.returns
returns c =
    let a = c.args in
    let h = c.requires in
    rw (c.action.ensures, width_is a.i a.size, start_is a.i a.size, h.2)
