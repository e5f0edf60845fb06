-- How a decimal number is read digit by digit.
-- Assumes nothing.
use Prim.Native.Nat.{ℕ, suc, ◌+◌, ◌≤◌, ◌<◌}
use mathlib.Core.Path.{◌≡◌, refl, sym, ap, ◌∙◌, subst}
use mathlib.Core.List.{List, [], ◌∷◌}
use native.Mathlib.Omega.{arith}
use lib.ListN.{length, get_or, drop, drop_of_length-le}
use lib.Seq.{drop-cons}
use Rattle.std.specs.Prelude.{Option, Some, None}
use Rattle.input.specs.Decimal.{extended, value_from, ReadsFrom}

-- more digits make no number less
value_no_less : (x : ℕ) (text : List ℕ) → x ≤ value_from x text
value_no_less x [] = omega arith
value_no_less x (byte ∷ text) = let more = value_no_less (extended x byte) text in omega arith

module _ (most : ℕ) where
  -- where one byte more gives nothing, more bytes give nothing
  none_with_more : (x byte : ℕ) (text : List ℕ) → ReadsFrom most x (byte ∷ []) None
      → ReadsFrom most x (byte ∷ text) None
  none_with_more x byte text one digits =
      let over = one (digits.0, tt) in
      let more = value_no_less (extended x byte) text in
      omega arith

  -- where one byte more gives a number, the text is read on from there
  read_on : (x byte n : ℕ) (text : List ℕ) → ReadsFrom most x (byte ∷ []) (Some n)
      → (r : Option ℕ) → ReadsFrom most n text r → ReadsFrom most x (byte ∷ text) r
  read_on x byte n text one (Some m) h =
      ((one.0.0, h.0), h.1 ∙ ap (λ (k : ℕ). value_from k text) one.1, h.2)
  read_on x byte n text one None h = λ digits.
      subst (λ (k : ℕ). most < value_from k text) one.1 (h digits.1)

  -- what is read of the whole text is what is read behind x from a place on
  abbrev pub SoFar : List ℕ → ℕ → ℕ → Type 0
  SoFar text x at = (r : Option ℕ) → ReadsFrom most x (drop at text) r → ReadsFrom most 0 text r

  module _ (text : List ℕ) (x at : ℕ) (so_far : SoFar text x at) where
    -- one is what the byte at this place gives
    module _ (inside : at < length text) (one : Option ℕ) (read : ReadsFrom most x (get_or text at 0 ∷ []) one) where
      rest : drop at text ≡ get_or text at 0 ∷ drop (at + 1) text
      rest =
          let next : suc at ≡ at + 1 = omega arith in
          drop-cons text at 0 inside ∙ ap (λ (k : ℕ). get_or text at 0 ∷ drop k text) next

      pub nothing_read : one ≡ None → ReadsFrom most 0 text None
      nothing_read e =
          so_far None
          (subst (λ (bytes : List ℕ). ReadsFrom most x bytes None) (sym rest)
          (none_with_more x (get_or text at 0) (drop (at + 1) text)
          (subst (ReadsFrom most x (get_or text at 0 ∷ [])) e read)))

      pub one_more_read : (n : ℕ) → one ≡ Some n → (n ≤ most) × SoFar text n (at + 1)
      one_more_read n e =
          let one_more = subst (ReadsFrom most x (get_or text at 0 ∷ [])) e read in (
            one_more.2,
            λ r h.
                so_far r
                (subst (λ (bytes : List ℕ). ReadsFrom most x bytes r) (sym rest)
                (read_on x (get_or text at 0) n (drop (at + 1) text) one_more r h)),
          )

    pub all_read : length text ≤ at → x ≤ most → ReadsFrom most 0 text (Some x)
    all_read past few =
        so_far (Some x)
        (subst (λ (bytes : List ℕ). ReadsFrom most x bytes (Some x)) (sym (drop_of_length-le text past)) (tt, refl, few))
