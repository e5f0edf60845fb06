-- Sets of facts. "Fact n is bit n, bit 0 lowest."
-- Assumes nothing.
use Rattle.std.specs.Prelude.{ℕ, zero, suc, ◌-◌, ◌/◌, ◌%◌, ◌^◌, ◌≤◌, ◌<◌, ◌≡◌, Bool, true, false, not, eqb, leb}
use Rattle.std.specs.Int.Bits.{bit_and, bit_or}

-- fact n is in the set
unfoldable pub has : ℕ → ℕ → Bool
has set zero = eqb (set % 2) 1
has set (suc n) = has (set / 2) n

-- the set's members are the numbers that pass the test
abbrev pub Members : ℕ → (ℕ → Bool) → Type 0
Members set test = (n : ℕ) → has set n ≡ test n

-- the facts in a or in b
unfoldable pub union : ℕ → ℕ → ℕ
union a b = bit_or a b

-- the facts in a and not in b
unfoldable pub difference : ℕ → ℕ → ℕ
difference a b = a - bit_and a b

-- every fact in a is in b
unfoldable pub subset : ℕ → ℕ → Bool
subset a b = eqb (bit_and a b) a

abbrev pub Subset : ℕ → ℕ → Type 0
Subset a b = (n : ℕ) → has a n ≡ true → has b n ≡ true

-- some fact is in both
unfoldable pub meets : ℕ → ℕ → Bool
meets a b = not (eqb (bit_and a b) 0)

abbrev pub Disjoint : ℕ → ℕ → Type 0
Disjoint a b = (n : ℕ) → has a n ≡ true → has b n ≡ false

-- the set has a bit at or above the number of facts
unfoldable pub foreign : ℕ → ℕ → Bool
foreign facts set = leb (2 ^ facts) set

abbrev pub Within : ℕ → ℕ → Type 0
Within facts set = (n : ℕ) → facts ≤ n → has set n ≡ false

-- the set of one fact
abbrev pub single : ℕ → ℕ
single n = 2 ^ n

-- r is the lowest fact of the set at or above a number, or 64 where there is none
pub record NextFact (set from r : ℕ) : Type 0 where
  pub within : r ≤ 64
  pub onward : from ≤ 64 → from ≤ r
  pub skipped : (n : ℕ) → from ≤ n → n < r → has set n ≡ false
  pub found : r < 64 → has set r ≡ true
