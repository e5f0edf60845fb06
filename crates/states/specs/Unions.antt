-- The union of a set of facts for each chosen step.
-- Assumes nothing.
use Rattle.std.specs.Prelude.{ℕ, ◌<◌, ◌≡◌, get_or}
use Rattle.job.specs.Job.{Job}
use Rattle.timeline.specs.Step.{Step, step_of, union_of}
use Rattle.tables.specs.Tables.{chosen_to}
use Rattle.tables.specs.declared.Steps.{Steps}

-- r is the union of the first n chosen steps' own sets, where what is given for each of them is its own set
abbrev pub UnionTo : Steps → (ℕ → ℕ → ℕ → Type 0) → ℕ → ℕ → Type 0
UnionTo steps Given n r =
    (J : Job) (own : Step → ℕ)
    → ((k set : ℕ) → k < n → Given (get_or steps.numbers k 0) (get_or steps.starts k 0) set
    → set ≡ own (step_of J (get_or steps.numbers k 0) (get_or steps.starts k 0)))
    → r ≡ union_of own (chosen_to J steps n)

-- the same of all chosen steps
abbrev pub UnionOver : Steps → (ℕ → ℕ → ℕ → Type 0) → ℕ → Type 0
UnionOver steps Given r = UnionTo steps Given steps.count r
