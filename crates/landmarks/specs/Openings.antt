-- Openings of pools: a minute for each pool before which no plan uses it.
-- Assumes nothing.
use Rattle.std.specs.Prelude.{ℕ, ◌+◌, ◌≤◌, ◌<◌, List, ◌++◌, get_or}
use Rattle.job.specs.Job.{Job}
use Rattle.timeline.specs.Step.{Step}
use Rattle.timeline.specs.Places.{EachStep}
use Rattle.timeline.specs.Keeps.{PlanOf}
use Rattle.earliest.specs.Numbers.{set_number}
use Rattle.tables.specs.declared.Frame.{Frame}
use Rattle.tables.specs.Tables.{needs_at, pool_use_at}
use Rattle.landmarks.specs.Tables.{PutBehind}

-- in every plan with the steps L, one of the others that starts at b or later and uses the pool starts at the minute or
-- later
abbrev pub OpensAt : Job → ℕ → List Step → ℕ → ℕ → Type 0
OpensAt J b L pool minute =
    (T goal : ℕ) (E : List Step) → EachStep (λ x. b ≤ x.start) E → PlanOf J T goal (E ++ L)
    → EachStep (λ x. 0 < get_or x.action.pools pool 0 → minute ≤ x.start) E

-- ---- in the tables of a job

-- where the table of numbers has the opening of a pool
abbrev pub open_at : List ℕ → ℕ → ℕ
open_at numbers pool = get_or numbers (1152 + pool) 0

-- what the first n actions need that use the pool is not there before the minute
abbrev pub OpenTo : List ℕ → List ℕ → List ℕ → Frame → ℕ → ℕ → ℕ → Type 0
OpenTo sets numbers times frame n pool minute =
    (i : ℕ) → i < n → 0 < pool_use_at numbers i pool → minute ≤ set_number times (needs_at sets i) frame.facts

-- the table has openings of the first n pools
abbrev pub OpeningsTo : List ℕ → List ℕ → List ℕ → Frame → ℕ → Type 0
OpeningsTo sets numbers times frame n =
    (pool : ℕ) → pool < n → OpenTo sets numbers times frame frame.actions pool (open_at numbers pool)

-- ---- what inner functions promise

-- the openings of the first n pools are put
abbrev pub OpeningsPut : List ℕ → List ℕ → Frame → ℕ → List ℕ → List ℕ → Type 0
OpeningsPut sets times frame n = PutBehind 1152 1220 n (λ ys. OpenTo sets ys times frame frame.actions)
