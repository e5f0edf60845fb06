-- Steps of a plan, the steps in a plan's bytes, and what is gathered over a list of steps.
-- Every definition here but `strictly_rising` is the same for every order of the list.
-- Assumes nothing.
use Rattle.std.specs.Prelude.{ℕ, ◌+◌, max, Bool, true, false, ◌&&◌, ◌||◌, List, [], ◌∷◌, ◌++◌, eqb, ltb, get_or}
use Rattle.lists.specs.Lists.{any}
use Rattle.encoding.specs.Bytes.{from_bytes, to_bytes, part, split, joined}
use Rattle.facts.specs.FactSet.{union}
use Rattle.job.specs.Job.{Action, Job, no_action}

-- "each an action and a start minute": the action's number, the action, and the minutes in which the step starts and
-- stops
pub record Step : Type 0 where
  pub number : ℕ
  pub action : Action
  pub start : ℕ
  pub stop : ℕ

-- "A step runs from its start up to, and without, its start plus its length."
abbrev pub step_of : Job → ℕ → ℕ → Step
step_of J number start =
    let action = get_or J.actions number no_action in
    record { number = number; action = action; start = start; stop = start + action.duration }

-- "In bytes a step is the action (1 byte), then the start (2 bytes)."
abbrev pub step_in : Job → List ℕ → Step
step_in J bytes = step_of J (from_bytes (part bytes 0 1)) (from_bytes (part bytes 1 2))

unfoldable pub steps_in : Job → List ℕ → List Step
steps_in J bytes = split 3 (step_in J) bytes

-- the bytes of a step, and of the steps of a plan one after the other
abbrev pub step_bytes : Step → List ℕ
step_bytes x = to_bytes 1 x.number ++ to_bytes 2 x.start

unfoldable pub plan_bytes : List Step → List ℕ
plan_bytes P = joined step_bytes P

-- "strictly rising order of start, then action"
abbrev pub before : Step → Step → Bool
before x y = ltb x.start y.start || (eqb x.start y.start && ltb x.number y.number)

abbrev pub strictly_rising : List Step → Bool
strictly_rising [] = true
strictly_rising (x ∷ []) = true
strictly_rising (x ∷ y ∷ P) = before x y && strictly_rising (y ∷ P)

-- ── over a list of steps ──

-- some two steps at different places pass the test
abbrev pub any_pair : (Step → Step → Bool) → List Step → Bool
any_pair test [] = false
any_pair test (x ∷ P) = any (test x) P || any_pair test P

-- the sum of a number for each step
abbrev pub total : (Step → ℕ) → List Step → ℕ
total f [] = 0
total f (x ∷ P) = f x + total f P

-- the largest of a number for each step, 0 for no steps
abbrev pub largest : (Step → ℕ) → List Step → ℕ
largest f [] = 0
largest f (x ∷ P) = max (f x) (largest f P)

-- the union of a set of facts for each step
abbrev pub union_of : (Step → ℕ) → List Step → ℕ
union_of f [] = 0
union_of f (x ∷ P) = union (f x) (union_of f P)
