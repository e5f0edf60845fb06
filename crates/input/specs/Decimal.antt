-- What is read of a text as a decimal number.
-- Assumes nothing.
use Rattle.std.specs.Prelude.{ℕ, ◌+◌, ◌*◌, ◌-◌, ◌≤◌, ◌<◌, ◌≡◌, List, [], ◌∷◌, length, Option, Some, None}

-- the byte is the ASCII code of a digit, `0` to `9`
abbrev pub Digit : ℕ → Type 0
Digit byte = (48 ≤ byte) × (byte ≤ 57)

-- every byte of the text is
abbrev pub Digits : List ℕ → Type 0
Digits [] = Unit {0}
Digits (byte ∷ text) = Digit byte × Digits text

-- the number x with one digit more behind it
abbrev pub extended : ℕ → ℕ → ℕ
extended x byte = 10 * x + (byte - 48)

-- the number x with the digits of the text behind it
abbrev pub value_from : ℕ → List ℕ → ℕ
value_from x [] = x
value_from x (byte ∷ text) = value_from (extended x byte) text

-- that number, where the text has only digits and the number is not over the most; nothing where it is
abbrev pub ReadsFrom : ℕ → ℕ → List ℕ → Option ℕ → Type 0
ReadsFrom most x text (Some n) = Digits text × (n ≡ value_from x text) × (n ≤ most)
ReadsFrom most x text None = Digits text → most < value_from x text

-- the number of the text, which has a digit; nothing where there is no such number
abbrev pub Reads : ℕ → List ℕ → Option ℕ → Type 0
Reads most text (Some n) = (0 < length text) × ReadsFrom most 0 text (Some n)
Reads most text None = 0 < length text → ReadsFrom most 0 text None
