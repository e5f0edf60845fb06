-- What inner functions of the join promise. Inner functions and laws alone cite these.
-- Assumes nothing.
use Rattle.std.specs.Prelude.{ℕ, zero, suc, ◌+◌, max, ◌≡◌, List, ◌++◌, map, get_or}
use Rattle.lists.specs.Lists.{tabulate}
use Rattle.encoding.specs.Bytes.{overwrite}
use Rattle.job.specs.Job.{Job}
use Rattle.timeline.specs.Step.{steps_in, plan_bytes}
use Rattle.timeline.specs.declared.Day.{Day}
use Rattle.joining.specs.Join.{later_by}

-- how many minutes later the second plan starts, by the number of steps and the end of the first
abbrev pub offset : ℕ → ℕ → ℕ → ℕ
offset wait zero last = 0
offset wait (suc n) last = last + wait

-- the end of both, the second so many minutes later, by its number of steps and its end
abbrev pub last_end : ℕ → ℕ → ℕ → ℕ → ℕ
last_end last minutes zero second = last
last_end last minutes (suc n) second = minutes + second

-- of each pool the larger of two peaks
abbrev pub larger_peaks : List ℕ → List ℕ → List ℕ
larger_peaks a b = tabulate 4 (λ pool. max (get_or a pool 0) (get_or b pool 0))

-- what is told of two plans joined, the second so many minutes later, by what is told of each
abbrev pub both_days : Day → Day → ℕ → Day
both_days a b minutes =
    record {
      end = last_end a.end minutes b.steps b.end;
      steps = a.steps + b.steps;
      peaks = larger_peaks a.peaks b.peaks;
    }

-- the plan's steps, so many minutes later, stand at the front, in every job
abbrev pub WritesLater : ℕ → List ℕ → List ℕ → List ℕ → Type 0
WritesLater minutes plan old new =
    (J : Job) → new ≡ overwrite old 0 (plan_bytes (map (later_by minutes) (steps_in J plan)))

-- the steps of two plans, those of the second so many minutes later
abbrev pub WritesBoth : ℕ → List ℕ → List ℕ → List ℕ → List ℕ → Type 0
WritesBoth minutes a b old new =
    (J : Job)
    → new ≡ overwrite old 0 (plan_bytes (steps_in J a) ++ plan_bytes (map (later_by minutes) (steps_in J b)))
