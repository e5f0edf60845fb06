-- What the planner promises: a shortest plan in the lent slice, or why there is none.
-- Assumes nothing.
use Rattle.std.specs.Prelude.{Option, Some, None, Result, Ok, Err}
use Rattle.std.specs.Prelude.{ℕ, ◌*◌, ◌≤◌, ◌≡◌, true, false, List, [], ◌∷◌, ◌++◌, ltb, length}
use Rattle.encoding.specs.Bytes.{overwrite}
use Rattle.job.specs.Job.{Job}
use Rattle.job.specs.Refusal.{reply_of, Row, ◌when◌, number, first, refused, returned}
use Rattle.job.specs.Valid.{job_rows}
use Rattle.job.specs.declared.refusal.Refusal.{Refusal}
use Rattle.job.specs.declared.refusal.Refusal.TheVariants.{PlanSlice, NoPlan}
use Rattle.job.specs.Refusal.{Verdict}
use Rattle.job.specs.Refusal.{pass}
use Rattle.timeline.specs.Step.{Step, steps_in}
use Rattle.timeline.specs.Timeline.{end}
use Rattle.timeline.specs.Accepted.{Accepted}
use Rattle.timeline.specs.Day.{told_of}
use Rattle.timeline.specs.declared.Day.{Day}
use Rattle.makespan.specs.Makespan.{Makespan, ends_at, no_plan, Counts, makespan}
use Rattle.leaf.specs.declared.Answer.{Answer}
use Rattle.leaf.specs.Answer.{bytes_in}

-- the tests of the job; then 21: "plan slice under 96 bytes"
abbrev pub plan_refusals : Job → List ℕ → List Row
plan_refusals J slice = job_rows J ++ (PlanSlice when ltb (length slice) 96 ∷ [])

-- the refusal "is returned, alone", and "no slice changes"
pub record RefusedWith (why : Refusal) (slice : List ℕ) (answer : Result Day Refusal) (after : List ℕ) : Type 0 where
  pub answers : answer ≡ Err why
  pub replies : reply_of answer ≡ refused (number why)
  pub keeps : after ≡ slice

-- "returns the end and number of steps and writes those steps at the front of the slice, the rest kept"; also "the
-- largest such amount for each of four pools". "The plan handed out counts and is accepted by the checker for the goal
-- asked"; which of the plans that end at e is left open
pub record HandsOut (J : Job) (goal minute : ℕ) (K : List Step) (slice : List ℕ) (e : ℕ) (answer : Result Day Refusal)
    (after : List ℕ) : Type 0 where
  pub bytes : List ℕ
  pub accepted : Accepted J goal bytes
  pub counts : Counts J minute K bytes
  pub end : end (steps_in J bytes) ≡ e
  pub answers : answer ≡ Ok (told_of J (steps_in J bytes))
  pub replies : reply_of answer ≡ returned (told_of J (steps_in J bytes))
  pub leaves : after ≡ overwrite slice 0 bytes

-- a plan with the least end of all accepted plans that count, or the refusal that there is none
abbrev pub PlansFor : Makespan → Refusal → Job → ℕ → ℕ → List Step → List ℕ → Result Day Refusal → List ℕ → Type 0
PlansFor (ends_at e) none J goal minute K slice answer after = HandsOut J goal minute K slice e answer after
PlansFor no_plan none J goal minute K slice answer after = RefusedWith none slice answer after

-- "Of the refusals that hold, the one standing first in the table is returned"; otherwise by the makespan for the job's
-- goal, where every plan counts; 22 where there is "no plan that passes 12 to 20"
abbrev pub PlansBy : Verdict → Job → List ℕ → Result Day Refusal → List ℕ → Type 0
PlansBy (Ok _) J slice answer after = PlansFor (makespan J J.goal) NoPlan J J.goal 0 [] slice answer after
PlansBy (Err why) J slice answer after = RefusedWith why slice answer after

-- the answer to a job and a slice, and every byte that the slice then holds
abbrev pub Plans : Job → List ℕ → Result Day Refusal → List ℕ → Type 0
Plans J slice answer after = PlansBy (first (plan_refusals J slice)) J slice answer after

-- ---- what inner functions promise

-- where there is a plan, its bytes are whole
abbrev pub Whole : Option Answer → Type 0
Whole r = (a : Answer) → r ≡ Some a → (a.count ≤ 32) × (length (bytes_in a) ≡ 3 * a.count)

-- the answer of the search as a call tells it: the plan at the front of the slice, or the refusal that there is none
abbrev pub HandedOut : Option Answer → Refusal → List ℕ → Result Day Refusal → List ℕ → Type 0
HandedOut (Some a) why slice r after =
    (r ≡ Ok (record { end = a.end; steps = a.count; peaks = a.peaks })) × (after ≡ overwrite slice 0 (bytes_in a))
HandedOut None why slice r after = (r ≡ Err why) × (after ≡ slice)
