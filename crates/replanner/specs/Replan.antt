-- What the replanner promises: a shortest day that keeps the begun steps, in the lent slice, or why there is none.
-- Assumes nothing.
use Rattle.job.specs.declared.refusal.Refusal.{Refusal}
use Rattle.std.specs.Prelude.{Result, Ok, Err}
use Rattle.std.specs.Prelude.{ℕ, ◌≡◌, Bool, true, false, List, [], ◌∷◌, ◌++◌, ltb, length}
use Rattle.encoding.specs.Bytes.{overwrite}
use Rattle.facts.specs.FactSet.{foreign}
use Rattle.job.specs.Job.{Job}
use Rattle.job.specs.Refusal.{reply_of, Row, ◌when◌, first, returned}
use Rattle.job.specs.Valid.{job_rows}
use Rattle.job.specs.declared.refusal.Refusal.TheVariants.{ForeignAskedFact, PlanSlice, NoPlanWithKept}
use Rattle.job.specs.Refusal.{Verdict}
use Rattle.timeline.specs.Step.{Step, steps_in, plan_bytes}
use Rattle.timeline.specs.Accepted.{run_rows}
use Rattle.timeline.specs.Day.{told_of}
use Rattle.timeline.specs.declared.Day.{Day}
use Rattle.makespan.specs.Makespan.{begun, passes, makespan_from}
use Rattle.planner.specs.Plan.{RefusedWith, PlansFor}

-- the tests of the job; 24 "tested after the job and before the plan"; 12 to 19 of "the current plan,
-- which must pass 12 to 19"; then 21
abbrev pub replan_rows : Job → List ℕ → ℕ → List ℕ → List Row
replan_rows J current goal slice =
    job_rows J
    ++ (ForeignAskedFact when foreign J.facts goal ∷ (run_rows J current ++ (PlanSlice when ltb (length slice) 96 ∷ [])))

-- "Steps that start before the minute are kept as they are."
abbrev pub kept_steps : Job → ℕ → List ℕ → List Step
kept_steps J minute current = begun minute (steps_in J current)

-- the kept steps K and no others, at the front of the slice, the rest kept
pub record HandsOutKept (J : Job) (K : List Step) (slice : List ℕ) (answer : Result Day Refusal) (after : List ℕ) : Type 0 where
  pub answers : answer ≡ Ok (told_of J K)
  pub replies : reply_of answer ≡ returned (told_of J K)
  pub leaves : after ≡ overwrite slice 0 (plan_bytes K)

-- "If the kept steps meet the goal, none are added." Otherwise a plan that counts, has "at most 32 steps in all, and no
-- other such plan ends earlier"; 35 where there is "no plan with these kept steps" that passes the checks
abbrev pub ReplansWith : Bool → Job → ℕ → ℕ → List Step → List ℕ → Result Day Refusal → List ℕ → Type 0
ReplansWith true J goal minute K slice answer after = HandsOutKept J K slice answer after
ReplansWith false J goal minute K slice answer after =
    PlansFor (makespan_from J goal minute K) NoPlanWithKept J goal minute K slice answer after

-- "Of the refusals that hold, the one standing first in the table is returned"; otherwise by whether the kept steps are
-- accepted for the goal as they are
abbrev pub ReplansBy : Verdict → Job → ℕ → ℕ → List Step → List ℕ → Result Day Refusal → List ℕ → Type 0
ReplansBy (Ok _) J goal minute K slice answer after = ReplansWith (passes J goal K) J goal minute K slice answer after
ReplansBy (Err why) J goal minute K slice answer after = RefusedWith why slice answer after

-- the answer to a job, the current plan, the minute, the new goal and a slice, and every byte that the slice then holds
abbrev pub Replans : Job → List ℕ → ℕ → ℕ → List ℕ → Result Day Refusal → List ℕ → Type 0
Replans J current minute goal slice answer after =
    ReplansBy (first (replan_rows J current goal slice)) J goal minute (kept_steps J minute current) slice answer after
