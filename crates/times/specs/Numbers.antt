-- Times as numbers, one of which stands for unreachable, and a table as a list of such numbers.
-- Assumes nothing.
use Rattle.std.specs.Prelude.{ℕ, cond, List, eqb, get_or}
use Rattle.times.specs.Time.{Time, at, unreachable}
use Rattle.pairs.specs.Pairs.{entry_of}
use Rattle.times.specs.Earliest.{Table}

-- the number that stands for unreachable: the largest of 32 bits
abbrev pub none : ℕ
none = 4294967295

-- the number of a time
abbrev pub number_of : Time → ℕ
number_of (at x) = x
number_of unreachable = none

-- the time that a number stands for
abbrev pub time_in : ℕ → Time
time_in x = cond (eqb x none) unreachable (at x)

-- the table that a list of numbers stands for
abbrev pub table_in : List ℕ → Table
table_in xs p q = time_in (get_or xs (entry_of p q) none)
