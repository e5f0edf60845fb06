-- The entries of a table as numbers: their sum, how many are finite, and what stays true while they are lowered.
-- Inner functions and laws alone cite these. Assumes nothing.
use Rattle.std.specs.Prelude.{ℕ, ◌+◌, ◌*◌, ◌<◌, ◌≤◌, ◌≡◌, cond, ◌⊎◌, List, [], ◌∷◌, eqb, get_or, length}
use Rattle.job.specs.Job.{Job}
use Rattle.times.specs.Earliest.{Table, right_side}
use Rattle.times.specs.Numbers.{none, table_in}
use Rattle.times.specs.Choices.{By}

-- the sum of the entries
abbrev pub sum : List ℕ → ℕ
sum [] = 0
sum (x ∷ xs) = x + sum xs

-- 1 for a finite entry, 0 for one that stands for unreachable
abbrev pub one : ℕ → ℕ
one x = cond (eqb x none) 0 1

-- the number of finite entries
abbrev pub finite_in : List ℕ → ℕ
finite_in [] = 0
finite_in (x ∷ xs) = one x + finite_in xs

-- each entry is at least its right side
abbrev pub AtLeastRightSide : Job → Table → Type 0
AtLeastRightSide J T = (p q t : ℕ) → p ≤ q → q < J.facts → By (T p q) t → By (right_side J T p q) t

-- what is kept while entries are lowered; a finite one is at most 255 for each finite one
pub record Kept (J : Job) (xs : List ℕ) : Type 0 where
  pub whole : length xs ≡ 2080
  pub least : AtLeastRightSide J (table_in xs)
  pub bounded : (k : ℕ) → k < 2080 → (get_or xs k none ≡ none) ⊎ (get_or xs k none ≤ 255 * finite_in xs)
