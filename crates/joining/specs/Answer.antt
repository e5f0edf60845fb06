-- What a call that joins two plans answers, and what it leaves in the slice.
-- Assumes nothing.
use Rattle.job.specs.declared.refusal.Refusal.{Refusal}
use Rattle.std.specs.Prelude.{Result, Ok, Err}
use Rattle.std.specs.Prelude.{ℕ, ◌≡◌, List, [], ◌∷◌, ◌++◌, ltb, length}
use Rattle.encoding.specs.Bytes.{overwrite}
use Rattle.job.specs.Job.{Job}
use Rattle.job.specs.Refusal.{reply_of, Row, ◌when◌, first, reply_by}
use Rattle.job.specs.Valid.{job_rows}
use Rattle.job.specs.declared.refusal.Refusal.TheVariants.{PlanSlice, JoinedTooLong}
use Rattle.job.specs.Refusal.{Verdict}
use Rattle.timeline.specs.Step.{Step, plan_bytes}
use Rattle.timeline.specs.Accepted.{shape_rows}
use Rattle.timeline.specs.Day.{told_of, day_of}
use Rattle.timeline.specs.declared.Day.{Day}
use Rattle.joining.specs.Join.{joined_steps, too_long}

-- the tests of the job; "Joining takes any two plans that pass 12 to 15; the first is tested before the second, then
-- the slice by 21, all before 34"
abbrev pub join_rows : Job → List ℕ → List ℕ → List ℕ → List Row
join_rows J a b slice =
    job_rows J
    ++ (shape_rows J a
    ++ (shape_rows J b
    ++ (PlanSlice when ltb (length slice) 96 ∷ JoinedTooLong when too_long J (joined_steps J a b) ∷ [])))

-- the end, the number of steps and the peaks of the joined plan, whether or not it passes 16 to 20; or the refusal
unfoldable pub join_answer : Job → List ℕ → List ℕ → List ℕ → Result Day Refusal
join_answer J a b slice = day_of (first (join_rows J a b slice)) J (joined_steps J a b)

-- "writes those steps at the front of the slice, the rest kept"; after a refusal "no slice changes"
abbrev pub left_by : Verdict → List Step → List ℕ → List ℕ
left_by (Ok _) P slice = overwrite slice 0 (plan_bytes P)
left_by (Err why) P slice = slice

unfoldable pub left_by_join : Job → List ℕ → List ℕ → List ℕ → List ℕ
left_by_join J a b slice = left_by (first (join_rows J a b slice)) (joined_steps J a b) slice

-- the answer to a job, two plans and a slice, the papers' reply, and every byte that the slice then holds
pub record Joins (J : Job) (a b slice : List ℕ) (answer : Result Day Refusal) (after : List ℕ) : Type 0 where
  pub answers : answer ≡ join_answer J a b slice
  pub replies : reply_of answer ≡ reply_by (first (join_rows J a b slice)) (told_of J (joined_steps J a b))
  pub leaves : after ≡ left_by_join J a b slice
