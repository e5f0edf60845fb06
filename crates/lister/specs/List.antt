-- What `list` promises: the plan at a place of the list in the lent slice, or why there is none.
-- Assumes nothing.
use Rattle.job.specs.declared.refusal.Refusal.{Refusal}
use Rattle.std.specs.Prelude.{Result, Ok, Err}
use Rattle.std.specs.Prelude.{ℕ, ◌≡◌, ◌⊎◌, List}
use Rattle.encoding.specs.Bytes.{overwrite}
use Rattle.job.specs.Job.{Job}
use Rattle.job.specs.Refusal.{reply_of, first, returned}
use Rattle.job.specs.declared.refusal.Refusal.TheVariants.{NoPlan, ListEnded}
use Rattle.job.specs.Refusal.{Verdict}
use Rattle.job.specs.Refusal.{pass}
use Rattle.timeline.specs.Step.{Step, plan_bytes}
use Rattle.timeline.specs.Day.{told_of}
use Rattle.timeline.specs.declared.Day.{Day}
use Rattle.makespan.specs.Makespan.{Makespan, ends_at, no_plan, makespan}
use Rattle.planner.specs.Plan.{plan_refusals, RefusedWith}
use Rattle.listing.specs.Place.{AtPlace, EndsBefore}

-- "The caller gives a place, counted from 0 in 32 bits, and gets the plan there"
pub record HandsOutPlace (J : Job) (goal place : ℕ) (slice : List ℕ) (answer : Result Day Refusal) (after : List ℕ) : Type 0 where
  pub plan : List Step
  pub at : AtPlace J goal place plan
  pub answers : answer ≡ Ok (told_of J plan)
  pub replies : reply_of answer ≡ returned (told_of J plan)
  pub leaves : after ≡ overwrite slice 0 (plan_bytes plan)

-- 28: "the list ends before that place; after 22"
abbrev pub ListsFor : Makespan → Job → ℕ → ℕ → List ℕ → Result Day Refusal → List ℕ → Type 0
ListsFor (ends_at e) J goal place slice answer after =
    HandsOutPlace J goal place slice answer after
    ⊎ (EndsBefore J goal place × RefusedWith ListEnded slice answer after)
ListsFor no_plan J goal place slice answer after = RefusedWith NoPlan slice answer after

-- the tests of the job and of the slice come first, as for the planner
abbrev pub ListsBy : Verdict → Job → ℕ → List ℕ → Result Day Refusal → List ℕ → Type 0
ListsBy (Ok _) J place slice answer after = ListsFor (makespan J J.goal) J J.goal place slice answer after
ListsBy (Err why) J place slice answer after = RefusedWith why slice answer after

-- the answer to a job, a place and a slice, and every byte that the slice then holds
abbrev pub Lists : Job → ℕ → List ℕ → Result Day Refusal → List ℕ → Type 0
Lists J place slice answer after = ListsBy (first (plan_refusals J slice)) J place slice answer after
