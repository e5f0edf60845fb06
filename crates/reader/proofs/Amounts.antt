-- Four amounts, place by place; and a byte as a number.
-- Assumes nothing.
use Prim.Native.Nat.{ℕ, ◌*◌, ◌/◌, ◌<◌, ◌≤◌}
use mathlib.Core.Path.{◌≡◌, refl, ap, ◌∙◌}
use mathlib.Core.List.{List, [], ◌∷◌, ◌++◌}
use native.Mathlib.Omega.{arith}
use lib.ListN.{length, get_or, drop, replicate, get_or-eq_default}
use Rattle.std.proofs.lemmas.List.{drop-replicate}
use Rattle.lists.specs.Lists.{filled}
use Rattle.lists.proofs.Tabulate.{length_tabulate, get_d_tabulate, tabulate_same, firsts_all}
use Rattle.encoding.specs.Bytes.{from_bytes, part, split}
use Rattle.encoding.proofs.ReadLoop.{number_step}

module _ (bytes : List ℕ) (i : ℕ) where
  pub amount_missing : length bytes / 4 ≤ i → get_or (split 4 from_bytes bytes) i 0 ≡ 0
  amount_missing l =
      let n = length_tabulate (length bytes / 4) (λ k. from_bytes (part bytes (k * 4) 4)) in
      get_or-eq_default (split 4 from_bytes bytes) 0 (omega arith)

  pub amount_there : i < length bytes / 4 → get_or (split 4 from_bytes bytes) i 0 ≡ from_bytes (part bytes (i * 4) 4)
  amount_there l = get_d_tabulate (length bytes / 4) (λ k. from_bytes (part bytes (k * 4) 4)) i 0 l

filled_four : (xs : List ℕ) → length xs ≤ 4
    → get_or xs 0 0 ∷ get_or xs 1 0 ∷ get_or xs 2 0 ∷ get_or xs 3 0 ∷ [] ≡ filled 4 0 xs
filled_four [] l = refl
filled_four (a ∷ []) l = refl
filled_four (a ∷ b ∷ []) l = refl
filled_four (a ∷ b ∷ c ∷ []) l = refl
filled_four (a ∷ b ∷ c ∷ d ∷ []) l = refl
filled_four (a ∷ b ∷ c ∷ d ∷ e ∷ xs) l = absurd (omega arith)

pub four_amounts : (bytes : List ℕ) → length bytes ≤ 16
    → let xs = split 4 from_bytes bytes in
    get_or xs 0 0 ∷ get_or xs 1 0 ∷ get_or xs 2 0 ∷ get_or xs 3 0 ∷ [] ≡ filled 4 0 xs
four_amounts bytes l =
    let n = length_tabulate (length bytes / 4) (λ k. from_bytes (part bytes (k * 4) 4)) in
    filled_four (split 4 from_bytes bytes) (omega arith)

-- the number of one byte is the byte
pub byte_there : (bytes : List ℕ) (i : ℕ) → i < length bytes → from_bytes (part bytes (i * 1) 1) ≡ get_or bytes i 0
unfolding from_bytes
byte_there bytes i l = let e : i * 1 ≡ i = omega arith in rw e (number_step bytes i 0 l ∙ omega arith)

-- each byte as a number: the bytes themselves
pub minutes_are : (bytes : List ℕ) → split 1 from_bytes bytes ≡ bytes
minutes_are bytes =
    let e : length bytes / 1 ≡ length bytes = omega arith in
    rw e
    (tabulate_same (length bytes) (λ i. from_bytes (part bytes (i * 1) 1)) (λ i. get_or bytes i 0) (byte_there bytes)
    ∙ firsts_all bytes 0)

-- they stand in front of what is left of the zeros
pub minutes_put : (n : ℕ) (bytes : List ℕ) → bytes ++ drop (length bytes) (replicate n 0)
    ≡ filled n 0 (split 1 from_bytes bytes)
minutes_put n bytes =
    rw (minutes_are bytes) (ap (λ (zs : List ℕ). bytes ++ zs) (drop-replicate (length bytes) n 0))
