-- What the call answers: the earliest time of a set, or why it is refused.
-- Assumes nothing.
use Rattle.std.specs.Prelude.{ℕ, ◌≡◌, List, [], ◌∷◌, ◌++◌, Option, Some, None, Result, Ok, Err}
use Rattle.facts.specs.FactSet.{foreign}
use Rattle.job.specs.Job.{Job}
use Rattle.job.specs.Refusal.{Row, ◌when◌, number, first, Reply, refused, returned}
use Rattle.job.specs.Valid.{job_rows}
use Rattle.job.specs.declared.refusal.Refusal.{Refusal}
use Rattle.job.specs.declared.refusal.Refusal.TheVariants.{ForeignAskedFact}
use Rattle.job.specs.Refusal.{Verdict}
use Rattle.job.specs.Refusal.{pass}
use Rattle.times.specs.Time.{Time, at, unreachable}
use Rattle.times.specs.Earliest.{Table, time_of, Solves}

-- the tests of the job, then 24: "asked set has a bit at or above the number of facts"
abbrev pub earliest_rows : Job → ℕ → List Row
earliest_rows J set = job_rows J ++ (ForeignAskedFact when foreign J.facts set ∷ [])

-- what the call answers: the refusal, or the time, none where it is unreachable
abbrev pub EarliestTime : Type 0
EarliestTime = Result (Option ℕ) Refusal

-- "a time is a number or 'unreachable'"
abbrev pub answer_of : Time → Option ℕ
answer_of (at x) = Some x
answer_of unreachable = None

abbrev pub time_in : Option ℕ → Time
time_in (Some x) = at x
time_in None = unreachable

-- the papers' reply: the number of the refusal, or the time
abbrev pub time_reply : EarliestTime → Reply Time
time_reply (Ok time) = returned (time_in time)
time_reply (Err why) = refused (number why)

-- the first refusal that holds. Otherwise "only one table solves this": there is one, and by every table that solves
-- the equations the answer is the time of the set
abbrev pub AnswersBy : Verdict → Job → ℕ → EarliestTime → Type 0
AnswersBy (Ok _) J set r =
    ((T : Table) × Solves J T)
    × ((T : Table) → Solves J T → (r ≡ Ok (answer_of (time_of J T set))) × (time_reply r ≡ returned (time_of J T set)))
AnswersBy (Err why) J set r = (r ≡ Err why) × (time_reply r ≡ refused (number why))

abbrev pub Answers : Job → ℕ → EarliestTime → Type 0
Answers J set r = AnswersBy (first (earliest_rows J set)) J set r
