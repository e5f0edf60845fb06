-- A file of any number of bodies: what is written is read body by body, and what is read is written again.
-- Assumes nothing.
use Prim.Native.Nat.{ℕ, zero, suc, ◌+◌, ◌*◌, ◌≤◌, ◌<◌}
use mathlib.Core.Path.{◌≡◌, refl, sym, ap, ap₂, ◌∙◌}
use mathlib.Core.Bool.{true}
use mathlib.Core.List.{List, [], ◌∷◌, ◌++◌, append_assoc, append-nil}
use native.Mathlib.Decide.{dec_lt}
use native.Mathlib.Omega.{arith}
use lib.Dec.{eqb}
use lib.ListN.{length, get_or, drop, length-append, take-append-drop, get_or-eq_default}
use lib.Seq.{drop-length, drop-drop}
use borrow.Author.Tests.{eq-eqb, eqb-true, lt-ltb, le-ltb}
use Rattle.lists.proofs.Bools.{absurd, and_left, and_right}
use Rattle.encoding.specs.Bytes.{from_bytes, to_bytes, part, joined}
use Rattle.encoding.proofs.Numbers.{length_bytes, number_bytes}
use Rattle.encoding.proofs.Parts.{Bytes, length_part, part_glue}
use Rattle.jobfile.specs.File.{contents, file_of_bodies, offset, size, body, gapless, entries_in, size_in, body_in}
use Rattle.jobfile.proofs.Lengths.{length_contents}
use Rattle.jobfile.proofs.Fields.{fields_read, number_again}

-- entry k names the body b, which stands at `at`
pub record Named (file : List ℕ) (at k : ℕ) (b : List ℕ) : Type 0 where
  pub place : offset file k ≡ at
  pub extent : size file k ≡ length b
  pub bytes : part file at (length b) ≡ b

-- the entries from k on name these bodies, which stand in a row from `at` to the end of the file
abbrev pub InRow : List ℕ → ℕ → ℕ → List (List ℕ) → Type 0
InRow file at k [] = at ≡ length file
InRow file at k (b ∷ bs) = Named file at k b × InRow file (at + length b) (suc k) bs

-- the n bodies that the entries from k on name
abbrev pub bodies_in : List ℕ → ℕ → ℕ → List (List ℕ)
bodies_in file k zero = []
bodies_in file k (suc n) = body file k ∷ bodies_in file (suc k) n

pub count_in : (file : List ℕ) (k n : ℕ) → length (bodies_in file k n) ≡ n
count_in file k zero = refl
count_in file k (suc n) = ap suc (count_in file (suc k) n)

-- ── written, then read ──

pub written_in_row : (bs : List (List ℕ)) → length (file_of_bodies bs) < 65536
    → InRow (file_of_bodies bs) (4 * length bs) 0 bs
written_in_row bs small = behind (file_of_bodies bs) [] [] (4 * length bs) 0 bs refl refl (omega arith) small
  where
    -- behind the entries E before k, and the bodies D before
    behind : (file E D : List ℕ) (at k : ℕ) (bs : List (List ℕ))
        → file ≡ E ++ (joined (to_bytes 2) (contents at bs) ++ (D ++ joined (λ b. b) bs))
        → length E ≡ 4 * k → 4 * k + 4 * length bs + length D ≡ at → length file < 65536 → InRow file at k bs
    behind file E D at k [] e l m small = let n = simp length-append at (ap length e) in omega arith
    behind file E D at k (b ∷ bs) e l m small =
        let O = to_bytes 2 at in
        let L = to_bytes 2 (length b) in
        let C = joined (to_bytes 2) (contents (at + length b) bs) in
        let fields = O ∷ L ∷ C ∷ D ∷ b ∷ joined (λ b. b) bs ∷ [] in
        let c = length_contents (at + length b) bs in
        let n = simp (length-append, length_bytes) at (ap length e) in
        let p : 4 * k + 2 + 2 + length C + length D ≡ at = omega arith in
        let read = fields_read file E (4 * k) fields (e ∙ simp (append_assoc, append-nil)) l in
        let r = simp length_bytes at read in (
          record {
            place = ap from_bytes r.0 ∙ number_bytes 2 at (omega arith);
            extent = ap from_bytes r.1.0 ∙ number_bytes 2 (length b) (omega arith);
            bytes = rw p at r.1.1.1.1.0;
          },
          behind file (E ++ O ++ L) (D ++ b) (at + length b) (suc k) bs (e ∙ simp append_assoc)
              (simp (length-append, length_bytes) (omega arith)) (simp length-append (omega arith)) small,
        )

-- what entry i of those from k on names
named_at : (file : List ℕ) (at k : ℕ) (bs : List (List ℕ)) → InRow file at k bs → (i : ℕ) → i < length bs
    → (size file (k + i) ≡ length (get_or bs i [])) × (body file (k + i) ≡ get_or bs i [])
named_at file at k [] r i l = absurd (omega arith)
named_at file at k (b ∷ bs) r zero l =
    let e : k + 0 ≡ k = omega arith in
    rw e (r.0.extent, ap₂ (part file) r.0.place r.0.extent ∙ r.0.bytes)
named_at file at k (b ∷ bs) r (suc i) l =
    let e : k + suc i ≡ suc k + i = omega arith in
    rw e (named_at file (at + length b) (suc k) bs r.1 i (omega arith))

module _ (file : List ℕ) (at : ℕ) (bs : List (List ℕ)) (r : InRow file at 0 bs) (e : length bs ≡ entries_in file) where
  -- beyond the form there is nothing
  named : (k : ℕ) → (size_in file k ≡ length (get_or bs k [])) × (body_in file k ≡ get_or bs k [])
  named k =
      elim (dec_lt k (entries_in file)) [
        | yes l ↦
            let z : 0 + k ≡ k = omega arith in
            rw (lt-ltb k (entries_in file) l) (rw z at (named_at file at 0 bs r k (omega arith)))
        | no l ↦
            let none : get_or bs k [] ≡ [] = get_or-eq_default bs [] (omega arith) in
            rw (le-ltb k (entries_in file) (omega arith), none) (refl, refl)
      ]

  pub size_in_row : (k : ℕ) → size_in file k ≡ length (get_or bs k [])
  size_in_row k = (named k).0

  pub body_in_row : (k : ℕ) → body_in file k ≡ get_or bs k []
  body_in_row k = (named k).1

module _ (file : List ℕ) where
  pub gapless_when_in_row : (at k : ℕ) (bs : List (List ℕ)) → InRow file at k bs
      → gapless file at k (length bs) ≡ true
  unfolding gapless
  gapless_when_in_row at k [] r = eq-eqb at (length file) r
  gapless_when_in_row at k (b ∷ bs) r =
      rw (eq-eqb (offset file k) at r.0.place, r.0.extent)
      (gapless_when_in_row (at + length b) (suc k) bs r.1)

  pub bodies_when_in_row : (at k : ℕ) (bs : List (List ℕ)) → InRow file at k bs → bodies_in file k (length bs) ≡ bs
  bodies_when_in_row at k [] r = refl
  bodies_when_in_row at k (b ∷ bs) r =
      rw (r.0.place, r.0.extent, r.0.bytes, bodies_when_in_row (at + length b) (suc k) bs r.1)

  -- ── read, then written ──

  within : (at k : ℕ) (bs : List (List ℕ)) → InRow file at k bs → at ≤ length file
  within at k [] r = omega arith
  within at k (b ∷ bs) r = let l = within (at + length b) (suc k) bs r.1 in omega arith

  pub in_row_when_gapless : (at k n : ℕ) → gapless file at k n ≡ true → InRow file at k (bodies_in file k n)
  unfolding gapless
  in_row_when_gapless at k zero h = eqb-true at (length file) h
  in_row_when_gapless at k (suc n) h =
      let o = eqb-true (offset file k) at (and_left (eqb (offset file k) at) _ h) in
      let r = in_row_when_gapless (at + size file k) (suc k) n (and_right (eqb (offset file k) at) _ h) in
      let w = within (at + size file k) (suc k) (bodies_in file (suc k) n) r in
      let l = length_part file (offset file k) (size file k) (omega arith) in
      (record { place = o; extent = sym l; bytes = ap₂ (part file) (sym o) l }, rw l r)

  bodies_again : (at k : ℕ) (bs : List (List ℕ)) → InRow file at k bs → joined (λ b. b) bs ≡ drop at file
  bodies_again at k [] r = rw r (sym (drop-length file))
  bodies_again at k (b ∷ bs) r =
      let rest = bodies_again (at + length b) (suc k) bs r.1 ∙ sym (drop-drop (length b) at file) in
      ap₂ ◌++◌ (sym r.0.bytes) rest ∙ take-append-drop (length b) (drop at file)

  glue : (a n c m : ℕ) → c ≡ a + n → part file a n ++ part file c m ≡ part file a (n + m)
  glue a n c m e = rw e (part_glue file a n m)

  contents_again : Bytes file → (at k : ℕ) (bs : List (List ℕ)) → InRow file at k bs
      → 4 * k + 4 * length bs ≤ length file → joined (to_bytes 2) (contents at bs) ≡ part file (4 * k) (4 * length bs)
  contents_again h at k [] r l = refl
  contents_again h at k (b ∷ bs) r l =
      let n = 4 * length bs in
      let four : 2 + (2 + n) ≡ 4 * suc (length bs) = omega arith in
      rw (
        contents_again h (at + length b) (suc k) bs r.1 (omega arith),
        ← r.0.place,
        ← r.0.extent,
        number_again file (4 * k) 2 h (omega arith),
        number_again file (4 * k + 2) 2 h (omega arith),
        glue (4 * k + 2) 2 (4 * suc k) n (omega arith),
        glue (4 * k) 2 (4 * k + 2) (2 + n) (omega arith),
        four,
      )

  pub file_when_in_row : Bytes file → (bs : List (List ℕ)) → InRow file (4 * length bs) 0 bs → file_of_bodies bs ≡ file
  file_when_in_row h bs r =
      let n = 4 * length bs in
      let w = within n 0 bs r in
      ap₂ ◌++◌ (contents_again h n 0 bs r (omega arith)) (bodies_again n 0 bs r) ∙ take-append-drop n file
