-- What the calls answer, and what they leave in a lent slice: a file that is refused is answered first; otherwise the
-- promise of the inner call, of the job that reading gives.
-- Assumes nothing.
use Rattle.std.specs.Prelude.{ℕ, ◌≡◌, List, length, Result, Ok, Err}
use Rattle.job.specs.Job.{Job, job_in}
use Rattle.job.specs.declared.refusal.Refusal.{Refusal}
use Rattle.jobfile.specs.Answers.{Reading, read_file, write_file, left_by_write}
use Rattle.checker.specs.Check.{check_plan}
use Rattle.price.specs.declared.Rates.{Rates}
use Rattle.price.specs.Price.{price_plan}
use Rattle.true_day.specs.TrueDay.{true_day}
use Rattle.joining.specs.Answer.{join_answer, left_by_join}
use Rattle.earliest.specs.Answer.{EarliestTime, Answers}
use Rattle.timeline.specs.declared.Day.{Day}
use Rattle.planner.specs.Plan.{Plans}
use Rattle.halving.specs.Halves.{FirstListed, Halves}
use Rattle.lister.specs.List.{Lists}
use Rattle.replanner.specs.Replan.{Replans}
use Rattle.pooling.specs.Pooled.{pool_jobs}
use Rattle.packing.specs.Answer.{done, refusal, written_number, checked_number, time_number, planned_number}
use Rattle.packing.specs.Answer.{peaks_by, priced_number}

-- a file that is refused is answered by its refusal, "alone"; otherwise the job in it decides
abbrev pub number_by : Reading → (Job → ℕ) → ℕ
number_by (Ok job) answer = answer (job_in job)
number_by (Err why) answer = refusal why

-- "no slice changes" after a refusal of the file, and no array
abbrev pub left_by : Reading → List ℕ → (Job → List ℕ) → List ℕ
left_by (Ok job) before after = after (job_in job)
left_by (Err why) before after = before

-- a file that is accepted is answered by its length
abbrev pub read_answer : List ℕ → ℕ
read_answer file = number_by (read_file file) (λ J. done (length file) 0)

-- the checker's answer to the job of the file and the plan
abbrev pub check_answer : List ℕ → List ℕ → ℕ
check_answer file plan = number_by (read_file file) (λ J. checked_number (check_plan J plan))

-- the peaks of a day that is told, in a lent array
abbrev pub peaks_by_check : List ℕ → List ℕ → List ℕ → List ℕ
peaks_by_check file plan before = left_by (read_file file) before (λ J. peaks_by (check_plan J plan) before)

-- what the day of the plan was, by the true lengths of its steps
abbrev pub true_day_answer : List ℕ → List ℕ → List ℕ → ℕ
true_day_answer file plan lengths = number_by (read_file file) (λ J. planned_number (true_day J plan lengths))

abbrev pub peaks_by_true_day : List ℕ → List ℕ → List ℕ → List ℕ → List ℕ
peaks_by_true_day file plan lengths before =
    left_by (read_file file) before (λ J. peaks_by (true_day J plan lengths) before)

-- what the plan costs at these rates, for the job of the file
abbrev pub price_answer : List ℕ → List ℕ → Rates → ℕ
price_answer file plan rates = number_by (read_file file) (λ J. priced_number (price_plan J rates plan))

-- the rates by the arrays that they are lent in
abbrev pub rates_in : List ℕ → List ℕ → ℕ → Rates
rates_in pools stores evening = record { pools = pools; stores = stores; evening = evening }

-- the writer's answer to the job of the file and the slice
abbrev pub rewrite_answer : List ℕ → List ℕ → ℕ
rewrite_answer file slice = number_by (read_file file) (λ J. written_number (write_file J slice))

-- what joining two plans answers, for the job of the file, and what it leaves in the slice and in the array of peaks
abbrev pub joined_answer : List ℕ → List ℕ → List ℕ → List ℕ → ℕ
joined_answer file a b slice = number_by (read_file file) (λ J. planned_number (join_answer J a b slice))

abbrev pub left_by_joining : List ℕ → List ℕ → List ℕ → List ℕ → List ℕ
left_by_joining file a b slice = left_by (read_file file) slice (λ J. left_by_join J a b slice)

abbrev pub peaks_by_joining : List ℕ → List ℕ → List ℕ → List ℕ → List ℕ → List ℕ
peaks_by_joining file a b slice before =
    left_by (read_file file) before (λ J. peaks_by (join_answer J a b slice) before)

-- what the writer leaves in the slice
abbrev pub left_by_rewrite : List ℕ → List ℕ → List ℕ
left_by_rewrite file slice = left_by (read_file file) slice (λ J. left_by_write J slice)

-- the number of a time of which the promise of earliest times holds
abbrev pub EarliestBy : Reading → ℕ → ℕ → Type 0
EarliestBy (Ok job) set r = (answer : EarliestTime) × Answers (job_in job) set answer × (r ≡ time_number answer)
EarliestBy (Err why) set r = r ≡ refusal why

-- the answer to a file and a set
abbrev pub EarliestAnswers : List ℕ → ℕ → ℕ → Type 0
EarliestAnswers file set r = EarliestBy (read_file file) set r

-- the number of a day of which the promise of the inner call holds, with its peaks and the bytes left in the slice
abbrev pub DayBy : Reading → (Job → Result Day Refusal → Type 0) → List ℕ → List ℕ → ℕ → List ℕ → List ℕ → Type 0
DayBy (Ok job) promise slice peaks r after peaks_then =
    (answer : Result Day Refusal) × promise (job_in job) answer × (r ≡ planned_number answer)
    × (peaks_then ≡ peaks_by answer peaks)
DayBy (Err why) promise slice peaks r after peaks_then = (r ≡ refusal why) × (after ≡ slice) × (peaks_then ≡ peaks)

-- the answer to a file, a slice and an array for the peaks, and all that both then hold
abbrev pub PlanAnswers : List ℕ → List ℕ → List ℕ → ℕ → List ℕ → List ℕ → Type 0
PlanAnswers file slice peaks r after peaks_then =
    DayBy (read_file file) (λ J answer. Plans J slice answer after) slice peaks r after peaks_then

-- the same for the plan at a place of the list
abbrev pub ListAnswers : List ℕ → ℕ → List ℕ → List ℕ → ℕ → List ℕ → List ℕ → Type 0
ListAnswers file place slice peaks r after peaks_then =
    DayBy (read_file file) (λ J answer. Lists J place slice answer after) slice peaks r after peaks_then

-- the same for a day planned in two halves
abbrev pub HalvesAnswers : List ℕ → ℕ → List ℕ → List ℕ → ℕ → List ℕ → List ℕ → Type 0
HalvesAnswers file halfway slice peaks r after peaks_then =
    DayBy (read_file file) (λ J answer. Halves FirstListed J halfway slice answer after) slice peaks r after peaks_then

-- the same for a day that has begun: its current plan, the minute and the new goal
abbrev pub ReplanAnswers : List ℕ → List ℕ → ℕ → ℕ → List ℕ → List ℕ → ℕ → List ℕ → List ℕ → Type 0
ReplanAnswers file plan minute goal slice peaks r after peaks_then =
    DayBy (read_file file) (λ J answer. Replans J plan minute goal slice answer after) slice peaks r after peaks_then

-- the refusals of the first file, of the second and of pooling; then the writer's answer to the pooled job
abbrev pub pool_answer : List ℕ → List ℕ → List ℕ → ℕ
pool_answer first second slice =
    number_by (read_file first)
    (λ A. number_by (read_file second)
    (λ B. number_by (pool_jobs A B) (λ P. written_number (write_file P slice))))

-- what the writer leaves in the slice; "no slice changes" after a refusal
abbrev pub left_by_pool : List ℕ → List ℕ → List ℕ → List ℕ
left_by_pool first second slice =
    left_by (read_file first) slice
    (λ A. left_by (read_file second) slice (λ B. left_by (pool_jobs A B) slice (λ P. left_by_write P slice)))
