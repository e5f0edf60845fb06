-- What a call that plans a day in two halves promises, by the list of plans that it takes them from.
-- Assumes nothing.
use Rattle.job.specs.declared.refusal.Refusal.{Refusal}
use Rattle.std.specs.Prelude.{Result, Ok, Err}
use Rattle.std.specs.Prelude.{ℕ, ◌≡◌, List, [], ◌∷◌, ◌++◌, ltb, length}
use Rattle.facts.specs.FactSet.{foreign}
use Rattle.job.specs.Job.{Job}
use Rattle.job.specs.Refusal.{reply_of, Row, ◌when◌, first, reply_by}
use Rattle.job.specs.Valid.{job_rows}
use Rattle.job.specs.declared.refusal.Refusal.TheVariants.{ForeignAskedFact, PlanSlice, NoPlan, JoinedTooLong}
use Rattle.job.specs.Refusal.{Verdict}
use Rattle.job.specs.Refusal.{pass}
use Rattle.timeline.specs.Step.{Step}
use Rattle.timeline.specs.Day.{told_of, day_of}
use Rattle.timeline.specs.declared.Day.{Day}
use Rattle.makespan.specs.Makespan.{Makespan, ends_at, no_plan, makespan}
use Rattle.joining.specs.Join.{largest_handover, join_steps, too_long}
use Rattle.joining.specs.Answer.{left_by}
use Rattle.listing.specs.Place.{AtPlace}
use Rattle.halving.specs.Afternoon.{afternoon}

-- the tests of the job; "A halfway set with a foreign bit is 24, tested right after the job"; then 21
abbrev pub halves_rows : Job → ℕ → List ℕ → List Row
halves_rows J halfway slice =
    job_rows J ++ (ForeignAskedFact when foreign J.facts halfway ∷ PlanSlice when ltb (length slice) 96 ∷ [])

-- the answer is the refusal, or tells of the steps P; so does the papers' reply; and the slice is as it was, or begins
-- with those steps
pub record Answered (v : Verdict) (J : Job) (P : List Step) (slice : List ℕ) (answer : Result Day Refusal) (after : List ℕ)
    : Type 0 where
  pub answers : answer ≡ day_of v J P
  pub replies : reply_of answer ≡ reply_by v (told_of J P)
  pub leaves : after ≡ left_by v P slice

-- "joins them"; 34 where the joined plan is too long
abbrev pub JoinedHalves : Job → List Step → List ℕ → Result Day Refusal → List ℕ → Type 0
JoinedHalves J P slice answer after = Answered (first (JoinedTooLong when too_long J P ∷ [])) J P slice answer after

-- which plan is the first of a list, for a goal of a job
abbrev pub FirstOf : Type 1
FirstOf = Job → ℕ → List Step → Type 0

-- "the first plan of the list in e)": nothing is listed before it
abbrev pub FirstListed : FirstOf
FirstListed J goal P = AtPlace J goal 0 P

-- where some plan is accepted, the first of the list is gone on with
abbrev pub WithFirst : FirstOf → Makespan → Job → ℕ → (List Step → Type 0) → Type 0 → Type 0
WithFirst First (ends_at e) J goal next none = (P : List Step) × First J goal P × next P
WithFirst First no_plan J goal next none = none

-- "Either half without a plan is 22, even where the whole day has one"
abbrev pub NoHalf : Job → List ℕ → Result Day Refusal → List ℕ → Type 0
NoHalf J slice answer after = Answered (Err NoPlan) J [] slice answer after

-- behind the steps A: "It then takes, likewise, the first for the real goal, from the facts and stores left, and joins
-- them."
abbrev pub SecondHalf : FirstOf → Job → List Step → List ℕ → Result Day Refusal → List ℕ → Type 0
SecondHalf First J A slice answer after =
    WithFirst First (makespan (afternoon J A) J.goal) (afternoon J A) J.goal
    (λ B. JoinedHalves J (join_steps (largest_handover J) A B) slice answer after)
    (NoHalf J slice answer after)

-- "The planner takes the first plan of the list in e) for that set as the goal." "Each half is planned from minute 0
-- with the job's whole deadline": both lists are of whole days, and what the first half leaves has the job's deadline
abbrev pub BothHalves : FirstOf → Job → ℕ → List ℕ → Result Day Refusal → List ℕ → Type 0
BothHalves First J halfway slice answer after =
    WithFirst First (makespan J halfway) J halfway (λ A. SecondHalf First J A slice answer after)
    (NoHalf J slice answer after)

-- "Of the refusals that hold, the one standing first in the table is returned"; otherwise both halves
abbrev pub HalvesBy : Verdict → FirstOf → Job → ℕ → List ℕ → Result Day Refusal → List ℕ → Type 0
HalvesBy (Ok _) First J halfway slice answer after = BothHalves First J halfway slice answer after
HalvesBy (Err why) First J halfway slice answer after = Answered (Err why) J [] slice answer after

-- the answer to a job, a halfway set and a slice, the papers' reply, and every byte that the slice then holds
abbrev pub Halves : FirstOf → Job → ℕ → List ℕ → Result Day Refusal → List ℕ → Type 0
Halves First J halfway slice answer after =
    HalvesBy (first (halves_rows J halfway slice)) First J halfway slice answer after
