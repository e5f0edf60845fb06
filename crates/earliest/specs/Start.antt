-- The table of times to begin with: 0 for the facts that hold at the start, unreachable for all others.
-- Assumes nothing.
use Rattle.std.specs.Prelude.{ℕ, ◌≤◌, ◌<◌, ◌≡◌, Bool, cond, ◌&&◌, List, length, get_or}
use Rattle.facts.specs.FactSet.{has}
use Rattle.pairs.specs.Pairs.{PairAt}
use Rattle.times.specs.Numbers.{none}

-- whether both facts of an entry are in the set
pub record BothIn (set entry : ℕ) (answer : Bool) : Type 0 where
  pub low : ℕ
  pub high : ℕ
  pub pair : PairAt entry low high
  pub same : answer ≡ (has set low && has set high)

-- an entry is 0 where both its facts are in the set, else unreachable
abbrev pub StartEntry : ℕ → List ℕ → ℕ → Type 0
StartEntry set xs k = (both : Bool) × BothIn set k both × (get_or xs k none ≡ cond both 0 none)

-- so are the first n entries; the others are unreachable
pub record StartTimes (set n : ℕ) (xs : List ℕ) : Type 0 where
  pub whole : length xs ≡ 2080
  pub entries : (k : ℕ) → k < n → StartEntry set xs k
  pub others : (k : ℕ) → n ≤ k → k < 2080 → get_or xs k none ≡ none
