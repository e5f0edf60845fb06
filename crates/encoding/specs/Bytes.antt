-- Numbers as bytes, and lists of bytes in pieces. "Numbers are little-endian."
-- Assumes nothing.
use Rattle.std.specs.Prelude.{ℕ, zero, suc, ◌+◌, ◌*◌, ◌/◌, ◌%◌, List, [], ◌∷◌, ◌++◌, length, take, drop}
use Rattle.lists.specs.Lists.{tabulate}

-- the number that the bytes say, the lowest byte first
unfoldable pub from_bytes : List ℕ → ℕ
from_bytes [] = 0
from_bytes (b ∷ bs) = b + 256 * from_bytes bs

-- the n bytes of x, the lowest byte first
unfoldable pub to_bytes : ℕ → ℕ → List ℕ
to_bytes zero x = []
to_bytes (suc n) x = x % 256 ∷ to_bytes n (x / 256)

-- the n bytes from place `at` on
abbrev pub part : List ℕ → ℕ → ℕ → List ℕ
part bs at n = take n (drop at bs)

-- what `read` says of each n bytes in turn
abbrev pub split : {A : Type 0} → ℕ → (List ℕ → A) → List ℕ → List A
split n read bs = tabulate (length bs / n) (λ i. read (part bs (i * n) n))

-- the bytes that `write` gives for each element, one after the other
abbrev pub joined : {A : Type 0} → (A → List ℕ) → List A → List ℕ
joined write [] = []
joined write (x ∷ xs) = write x ++ joined write xs

-- bs with `new` in place of the bytes from place `at` on
unfoldable pub overwrite : List ℕ → ℕ → List ℕ → List ℕ
overwrite bs at new = take at bs ++ new ++ drop (at + length new) bs
