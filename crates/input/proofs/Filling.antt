-- The front of a buffer that is filled part by part.
-- Assumes nothing.
use Rattle.std.proofs.Common.{◌≡◌, ℕ, ◌+◌, ◌-◌, ◌≤◌, List, ◌++◌, arith, length, take, drop, slice_range, sym, ap, ◌∙◌, le_refl, drop_at, length-take-le}
use Rattle.std.proofs.lemmas.Slice.{take-put_mid_below}
use borrow.Rule.Slice.PartMut.{put_mid, post_of}
use lib.Seq.{take-add, take-append-le}

-- the front of a list, and behind it the next part, is a longer front
front_and_part : (a n : ℕ) (old new : List ℕ) → take a new ≡ take a old
    → take a old ++ slice_range new a (a + n) ≡ take (a + n) new
front_and_part a n old new front =
    let same : (a + n) - a ≡ n = omega arith in
    ap (λ l. l ++ slice_range new a (a + n)) (sym front) ∙ ap (λ k. take a new ++ take k (drop a new)) same ∙ sym (take-add a n new)

-- the first n of the part that is put in from a place on are the first n of what is put there
part_put : (a k n : ℕ) (xs ys : List ℕ) → a ≤ length xs → n ≤ length ys
    → slice_range (put_mid a k xs ys) a (a + n) ≡ take n ys
part_put a k n xs ys within fits =
    let same : (a + n) - a ≡ n = omega arith in
    let after = post_of a k xs in
    ap (take ((a + n) - a)) (drop_at (take a xs) (ys ++ after) a (length-take-le a xs within))
    ∙ ap (λ m. take m (ys ++ after)) same ∙ take-append-le n ys after fits

-- the front of the buffer with n bytes more, which stand first in what is put in behind it
pub longer_front : (a k n : ℕ) (xs ys : List ℕ) → a ≤ length xs → n ≤ length ys
    → take a xs ++ take n ys ≡ take (a + n) (put_mid a k xs ys)
longer_front a k n xs ys within fits =
    ap (λ l. take a xs ++ l) (sym (part_put a k n xs ys within fits))
    ∙ front_and_part a n xs (put_mid a k xs ys) (take-put_mid_below _ _ _ _ _ (le_refl _) within)
