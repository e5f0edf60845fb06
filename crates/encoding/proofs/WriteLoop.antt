-- The loop of `write_number`: the bytes from the first to the last.
-- Assumes nothing.
use Prim.Native.Nat.{ℕ, suc, ◌+◌, ◌-◌, ◌/◌, ◌%◌, ◌≤◌, ◌<◌}
use mathlib.Core.Path.{◌≡◌, ap, sym, ◌∙◌}
use mathlib.Core.List.{List, [], ◌∷◌}
use native.Mathlib.Numerals.{add-one}
use native.Mathlib.Omega.{arith}
use lib.ListN.{length, get_or, take, drop, set}
use lib.Seq.{drop-cons, take_all, length-take-le, take-suc}
use Rattle.encoding.specs.Bytes.{to_bytes, overwrite}
use Rattle.encoding.proofs.Numbers.{length_bytes}
use Rattle.encoding.proofs.Overwrite.{overwrite_none, overwrite_overwrite, length_overwrite, set_overwrite}

-- at byte i, with what is left of x
abbrev pub Writing : List ℕ → ℕ → ℕ → ℕ → List ℕ → ℕ → ℕ → Type 0
Writing o at n x out rest i = (i ≤ n) × (out ≡ overwrite o at (take i (to_bytes n x)))
    × (drop i (to_bytes n x) ≡ to_bytes (n - i) rest)

pub writing_none : (o : List ℕ) (at n x : ℕ) → Writing o at n x o x 0
writing_none o at n x = let e : n - 0 ≡ n = omega arith in (omega arith, sym (overwrite_none o at), rw e)

pub writing_more : (o : List ℕ) (at n x : ℕ) (out : List ℕ) (rest i : ℕ) → at + n ≤ length o → i < n
    → Writing o at n x out rest i
    → Writing o at n x (set out (at + i) (rest % 256)) (rest / 256) (i + 1)
unfolding to_bytes
writing_more o at n x out rest i l h w =
    let k : n - i ≡ suc (n - (i + 1)) = omega arith in
    let lb = length_bytes n x in
    let d : get_or (to_bytes n x) i 0 ∷ drop (suc i) (to_bytes n x) ≡ rest % 256 ∷ to_bytes (n - (i + 1)) (rest / 256) =
    sym (drop-cons (to_bytes n x) i 0 (omega arith)) ∙ w.2 ∙ ap (λ (m : ℕ). to_bytes m rest) k in
    let g : get_or (to_bytes n x) i 0 ≡ rest % 256 = cc in
    let t : drop (suc i) (to_bytes n x) ≡ to_bytes (n - (i + 1)) (rest / 256) = cc in
    let lt : length (take i (to_bytes n x)) ≡ i = length-take-le i (to_bytes n x) (omega arith) in
    let lo = length_overwrite o at (take i (to_bytes n x)) (omega arith) in (
      omega arith,
      rw (
        w.1,
        set_overwrite (overwrite o at (take i (to_bytes n x))) (at + i) (rest % 256)
            (omega arith),
        add-one i,
        take-suc (to_bytes n x) i 0 (omega arith),
        g,
      )
          (overwrite_overwrite o at (take i (to_bytes n x)) (rest % 256 ∷ []) (at + i) (omega arith) (omega arith)),
      rw (add-one i) (rw (add-one i) at t),
    )

pub writing_end : (o : List ℕ) (at n x : ℕ) (out : List ℕ) (rest i : ℕ) → n ≤ i → Writing o at n x out rest i → out
    ≡ overwrite o at (to_bytes n x)
writing_end o at n x out rest i l w =
    let b = length_bytes n x in
    w.1 ∙ ap (overwrite o at) (take_all i (to_bytes n x) (omega arith))
