-- The numbers of times: of a set of facts, of the same time, and of a time some minutes later.
-- Assumes nothing.
use Rattle.std.specs.Prelude.{ℕ, zero, suc, ◌+◌, ◌<◌, max, ◌≡◌, cond, ◌⊎◌, List, ltb, get_or, Option, MatchOption}
use Rattle.facts.specs.FactSet.{has}
use Rattle.pairs.specs.Pairs.{entry_of}
use Rattle.times.specs.Numbers.{none}

-- the largest f k of the facts k < n that are in the set, 0 where there is none
unfoldable pub latest : ℕ → (ℕ → ℕ) → ℕ → ℕ
latest set f zero = 0
latest set f (suc n) = max (cond (has set n) (f n) 0) (latest set f n)

-- the largest of the entries of fact q with the facts of the set below n
abbrev pub row_number : List ℕ → ℕ → ℕ → ℕ → ℕ
row_number xs set q n = latest set (λ p. get_or xs (entry_of p q) none) n

-- the number of the time of a set, by its facts below n
abbrev pub set_number : List ℕ → ℕ → ℕ → ℕ
set_number xs set n = latest set (λ q. row_number xs set q (suc q)) n

-- two numbers of one time: the same number, or both later than any finite time
abbrev pub SameTime : ℕ → ℕ → Type 0
SameTime x y = (x ≡ y) ⊎ ((530400 < x) × (530400 < y))

-- the number, or none where it is later than the limit
abbrev pub UpTo : ℕ → Option ℕ → ℕ → Type 0
UpTo limit r x = MatchOption r (limit < x) (λ y. y ≡ x)

-- the number of a time so many minutes later: no finite time is later than 530,400
abbrev pub after_number : ℕ → ℕ → ℕ
after_number minutes x = cond (ltb 530400 x) none (minutes + x)
