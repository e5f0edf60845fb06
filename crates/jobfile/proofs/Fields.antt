-- Fields and numbers, each behind the one before: what was written is read back, and what was read is written again.
-- Assumes nothing.
use Prim.Native.Nat.{ℕ, ◌+◌, ◌%◌, ◌^◌, ◌≤◌, ◌<◌}
use mathlib.Core.Path.{◌≡◌, refl, ap, sym, ◌∙◌}
use mathlib.Core.List.{List, [], ◌∷◌, ◌++◌, append_assoc}
use native.Mathlib.Omega.{arith}
use lib.ListN.{length, length-append}
use Rattle.lists.specs.Lists.{Each}
use Rattle.lists.proofs.Tabulate.{each_all, each_map}
use Rattle.encoding.specs.Bytes.{from_bytes, to_bytes, part, split, joined}
use Rattle.encoding.proofs.Numbers.{length_bytes, number_bytes, bytes_from_bytes}
use Rattle.encoding.proofs.Parts.{Bytes, length_part, part_bytes, part_seam}
use Rattle.encoding.proofs.Pieces.{split_joined, joined_split}

-- ── written, then read ──

-- these fields stand in a row from `at` on
abbrev pub Fields : List ℕ → ℕ → List (List ℕ) → Type 0
Fields bytes at [] = Unit
Fields bytes at (field ∷ rest) = (part bytes at (length field) ≡ field) × Fields bytes (at + length field) rest

pub fields_read : (bytes A : List ℕ) (at : ℕ) (fields : List (List ℕ)) → bytes ≡ A ++ joined (λ b. b) fields
    → length A ≡ at → Fields bytes at fields
fields_read bytes A at [] e l = tt
fields_read bytes A at (field ∷ rest) e l =
    let n = length field in
    let m = length-append A field in (
      ap (λ (b : List ℕ). part b at n) e ∙ part_seam A field (joined (λ b. b) rest) at n l refl,
      fields_read bytes (A ++ field) (at + length field) rest (e ∙ simp append_assoc) (omega arith),
    )

pub numbers_read : (n : ℕ) (xs : List ℕ) → 0 < n → Each (λ x. x < 256 ^ n) xs
    → split n from_bytes (joined (to_bytes n) xs) ≡ xs
numbers_read n xs l h =
    split_joined n from_bytes (to_bytes n) xs l (each_all (λ x. length_bytes n x) xs)
    (each_map (λ x e. number_bytes n x e) xs h)

-- ── read, then written ──

pub number_again : (bs : List ℕ) (at n : ℕ) → Bytes bs → at + n ≤ length bs
    → to_bytes n (from_bytes (part bs at n)) ≡ part bs at n
number_again bs at n h l =
    ap (λ (k : ℕ). to_bytes k (from_bytes (part bs at n))) (sym (length_part bs at n l))
    ∙ bytes_from_bytes (part bs at n) (part_bytes bs at n h)

pub numbers_again : (n : ℕ) (bs : List ℕ) → 0 < n → Bytes bs → length bs % n ≡ 0
    → joined (to_bytes n) (split n from_bytes bs) ≡ bs
numbers_again n bs l h e = joined_split n from_bytes (to_bytes n) bs l e (λ at k. number_again bs at n h k)
