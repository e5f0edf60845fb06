-- A plan run with true lengths, within the ranges of its actions.
-- Assumes nothing.
use Rattle.std.specs.Prelude.{ℕ, ◌+◌, Bool, true, false, ◌||◌, List, [], ◌∷◌, ltb}
use Rattle.job.specs.Job.{Job}
use Rattle.job.specs.Lengths.{shortest_of}
use Rattle.timeline.specs.Step.{Step}

-- the step with another length: the same action and start
abbrev pub with_length : Step → ℕ → Step
with_length x n = record { number = x.number; action = x.action; start = x.start; stop = x.start + n }

-- "true length within the ranges, one for each step, the same starts"
abbrev pub with_lengths : List Step → List ℕ → List Step
with_lengths [] lengths = []
with_lengths (x ∷ P) [] = x ∷ P
with_lengths (x ∷ P) (n ∷ lengths) = with_length x n ∷ with_lengths P lengths

-- the length is outside the range of the step's action, whose own length is the longest
abbrev pub outside_range : Job → Step → ℕ → Bool
outside_range J x n = ltb n (shortest_of J x.number) || ltb x.action.duration n

-- "true lengths of the wrong number or outside their range"
abbrev pub wrong_lengths : Job → List Step → List ℕ → Bool
wrong_lengths J [] [] = false
wrong_lengths J [] (n ∷ lengths) = true
wrong_lengths J (x ∷ P) [] = true
wrong_lengths J (x ∷ P) (n ∷ lengths) = outside_range J x n || wrong_lengths J P lengths
