-- Laws of parts of a list of bytes.
-- Assumes nothing.
use Prim.Native.Nat.{ℕ, zero, suc, ◌+◌, ◌-◌, ◌≤◌, ◌<◌}
use mathlib.Core.Path.{◌≡◌, refl, ap, sym, ◌∙◌}
use mathlib.Core.List.{List, [], ◌∷◌, ◌++◌}
use native.Mathlib.Omega.{arith}
use lib.ListN.{length, get_or, take, drop, length-take, length-drop}
use lib.Seq.{take-take, drop-drop, take-add, take_at, drop_at, get_or-drop}
use Rattle.lists.proofs.Bools.{absurd}
use Rattle.encoding.specs.Bytes.{part}

-- each element is a byte
abbrev pub Bytes : List ℕ → Type 0
Bytes bs = (i : ℕ) → get_or bs i 0 < 256

pub length_part : (bs : List ℕ) (at n : ℕ) → at + n ≤ length bs → length (part bs at n) ≡ n
length_part bs at n h = simp (length-take, length-drop) (omega arith)

pub part_past_end : (bs : List ℕ) (at n : ℕ) → length bs ≤ at → part bs at n ≡ []
part_past_end [] zero zero l = refl
part_past_end [] zero (suc n) l = refl
part_past_end [] (suc at) zero l = refl
part_past_end [] (suc at) (suc n) l = refl
part_past_end (b ∷ bs) zero n l = absurd (omega arith)
part_past_end (b ∷ bs) (suc at) n l = part_past_end bs at n (omega arith)

pub part_bytes : (bs : List ℕ) (at n : ℕ) → Bytes bs → Bytes (part bs at n)
part_bytes bs at n h i = take_bytes n (drop at bs) (λ j. rw get_or-drop (h (at + j))) i
  where
    take_bytes : (n : ℕ) (bs : List ℕ) → Bytes bs → Bytes (take n bs)
    take_bytes zero bs h i = omega arith
    take_bytes (suc n) [] h i = omega arith
    take_bytes (suc n) (b ∷ bs) h zero = h 0
    take_bytes (suc n) (b ∷ bs) h (suc i) = take_bytes n bs (λ j. h (suc j)) i

drop_take : (b n : ℕ) (bs : List ℕ) → drop b (take (b + n) bs) ≡ take n (drop b bs)
drop_take zero n bs = let e : 0 + n ≡ n = omega arith in ap (λ (k : ℕ). take k bs) e
drop_take (suc b) zero [] = let e : suc b + 0 ≡ suc b = omega arith in rw e
drop_take (suc b) (suc n) [] = let e : suc b + suc n ≡ suc (b + suc n) = omega arith in rw e
drop_take (suc b) n (x ∷ bs) = let e : suc b + n ≡ suc (b + n) = omega arith in rw e (drop_take b n bs)

pub part_part : (bs : List ℕ) (a n b m : ℕ) → b + m ≤ n → part (part bs a n) b m ≡ part bs (a + b) m
part_part bs a n b m h =
    let e : n ≡ b + (n - b) = omega arith in
    ap (λ (k : ℕ). take m (drop b (take k (drop a bs)))) e
    ∙ ap (take m) (drop_take b (n - b) (drop a bs))
    ∙ take-take m (n - b) (drop b (drop a bs)) (omega arith)
    ∙ ap (take m) (drop-drop b a bs)

pub part_glue : (bs : List ℕ) (a n m : ℕ) → part bs a n ++ part bs (a + n) m ≡ part bs a (n + m)
part_glue bs a n m = sym (take-add n m (drop a bs) ∙ ap (λ (l : List ℕ). take n (drop a bs) ++ take m l)
    (drop-drop n a bs))

pub part_seam : (A B C : List ℕ) (at n : ℕ) → length A ≡ at → length B ≡ n → part (A ++ (B ++ C)) at n ≡ B
part_seam A B C at n p q = ap (take n) (drop_at A (B ++ C) at p) ∙ take_at B C n q
