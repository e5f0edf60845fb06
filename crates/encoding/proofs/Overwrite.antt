-- Laws of writing over a list of bytes: one write after another, and a loop that writes one piece a turn.
-- Assumes nothing.
use Prim.Native.Nat.{ℕ, zero, suc, ◌+◌, ◌*◌, ◌≤◌, ◌<◌}
use mathlib.Core.Path.{◌≡◌, ap, sym, ◌∙◌}
use mathlib.Core.List.{List, [], ◌∷◌, ◌++◌, append-nil, append_assoc}
use native.Mathlib.Nat.{suc-mul, zero-mul}
use native.Mathlib.Numerals.{add-one}
use native.Mathlib.Omega.{arith}
use lib.ListN.{length, take, drop, set, length-append, length-drop, take-append-drop}
use lib.Seq.{drop-drop, take_at, drop-append-add, set_split, append_snoc, length-take-le}
use Rattle.lists.specs.Lists.{tabulate}
use Rattle.encoding.specs.Bytes.{joined, overwrite}
use Rattle.encoding.proofs.Pieces.{joined_snoc}

pub overwrite_none : (xs : List ℕ) (at : ℕ) → overwrite xs at [] ≡ xs
unfolding overwrite
overwrite_none xs at =
    let e : at + 0 ≡ at = omega arith in
    rw (append-nil (take at xs), e) (take-append-drop at xs)

pub length_overwrite : (xs : List ℕ) (at : ℕ) (A : List ℕ) → at + length A ≤ length xs → length (overwrite xs at A)
    ≡ length xs
unfolding overwrite
length_overwrite xs at A h = let l = length-take-le at xs (omega arith) in simp (length-append, length-drop)
    (omega arith)

-- one after the other
pub overwrite_overwrite : (xs : List ℕ) (at : ℕ) (A B : List ℕ) (next : ℕ) → next ≡ at + length A → next ≤ length xs
    → overwrite (overwrite xs at A) next B ≡ overwrite xs at (A ++ B)
unfolding overwrite
overwrite_overwrite xs at A B next e h =
    let P = take at xs ++ A in
    let l : length P ≡ next = length-append (take at xs) A
    ∙ (let q = length-take-le at xs (omega arith) in omega arith) in
    let t : take next (overwrite xs at A) ≡ P = take_at P (drop (at + length A) xs) next l in
    let k : next + length B ≡ length P + length B = omega arith in
    let d : drop (next + length B) (overwrite xs at A) ≡ drop (length B) (drop (at + length A) xs)
    = rw k (drop-append-add P (drop (at + length A) xs) (length B)) in
    let m : at + length A + length B ≡ at + length (A ++ B) = let q = length-append A B in omega arith in
    rw (t, d, drop-drop (length B) (at + length A) xs, m, append_assoc (take at xs) A B)

pub set_overwrite : (xs : List ℕ) (i b : ℕ) → i < length xs → set xs i b ≡ overwrite xs i (b ∷ [])
unfolding overwrite
set_overwrite xs i b h = set_split xs i b h ∙ sym (rw (add-one i) (append_snoc (take i xs) b (drop (suc i) xs)))

-- a loop that writes one piece of s bytes a turn
module _ {A : Type 0} (g : A → List ℕ) (f : ℕ → A) (s : ℕ) (e : (k : ℕ) → length (g (f k)) ≡ s) where
  pub length_pieces : (i : ℕ) → length (joined g (tabulate i f)) ≡ i * s
  unfolding tabulate
  length_pieces zero = sym (zero-mul s)
  length_pieces (suc i) =
      let l = length_pieces i in
      let m = suc-mul i s in
      let q = e i in
      ap length (joined_snoc g (tabulate i f) (f i)) ∙ length-append (joined g (tabulate i f)) (g (f i)) ∙ omega arith

  pub pieces_none : (o : List ℕ) (at : ℕ) → o ≡ overwrite o at (joined g (tabulate 0 f))
  unfolding tabulate
  pieces_none o at = sym (overwrite_none o at)

  pub pieces_more : (o : List ℕ) (at i next : ℕ) → next ≡ at + i * s → next ≤ length o
      → overwrite (overwrite o at (joined g (tabulate i f))) next (g (f i))
      ≡ overwrite o at (joined g (tabulate (i + 1) f))
  unfolding tabulate
  pieces_more o at i next h l =
      let q = length_pieces i in
      overwrite_overwrite o at (joined g (tabulate i f)) (g (f i)) next (omega arith) l
      ∙ ap (overwrite o at) (sym (joined_snoc g (tabulate i f) (f i)))
      ∙ rw (add-one i)
