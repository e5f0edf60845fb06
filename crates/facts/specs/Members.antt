-- The facts of a set, one after the other.
-- Assumes nothing.
use Rattle.std.specs.Prelude.{ℕ, ◌+◌, ◌<◌, ◌≡◌, Option, MatchOption}
use Rattle.facts.specs.FactSet.{NextFact}

-- the lowest fact of the set from the number on, and then the number behind it; none where there is none
abbrev pub GivesNext : ℕ → ℕ → Option ℕ → ℕ → ℕ → Type 0
GivesNext set from given set_after from_after =
    (set_after ≡ set)
    × MatchOption given (NextFact set from 64) (λ q. (q < 64) × NextFact set from q × (from_after ≡ q + 1))
