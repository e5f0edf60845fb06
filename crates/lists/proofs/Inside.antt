-- An element inside a list does not depend on what is read past the list's end.
-- Assumes nothing.
use Prim.Native.Nat.{ℕ, zero, suc, ◌<◌}
use mathlib.Core.Path.{◌≡◌, refl}
use mathlib.Core.List.{List, [], ◌∷◌}
use native.Mathlib.Omega.{arith}
use lib.ListN.{length, get_or}

pub get_d_inside : {A : Type 0} (xs : List A) (n : ℕ) (d e : A) → n < length xs → get_or xs n d ≡ get_or xs n e
get_d_inside [] n d e l = absurd (omega arith)
get_d_inside (x ∷ xs) zero d e l = refl
get_d_inside (x ∷ xs) (suc n) d e l = get_d_inside xs n d e (omega arith)
