-- Three parts of a day joined two at a time: the steps, and the calls.
-- Assumes nothing.
use Rattle.job.specs.declared.refusal.Refusal.{Refusal}
use Rattle.std.specs.Prelude.{Result, Ok, Err}
use Rattle.std.specs.Prelude.{ℕ, ◌*◌, true, false, List, take}
use Rattle.job.specs.Job.{Job}
use Rattle.job.specs.Refusal.{verdict_of, Verdict}
use Rattle.timeline.specs.Step.{Step}
use Rattle.timeline.specs.declared.Day.{Day}
use Rattle.timeline.specs.Day.{told}
use Rattle.joining.specs.Join.{join_steps, too_long}
use Rattle.joining.specs.Answer.{join_answer, left_by_join}

-- ---- steps: a day that was joined, or 34
pub data Joined : Type 0 where
  day : List Step → Joined
  day_too_long : Joined

abbrev pub unless_too_long : Job → List Step → Joined
unless_too_long J P = elim (too_long J P) [ true ↦ day_too_long | false ↦ day P ]

unfoldable pub join : Job → ℕ → List Step → List Step → Joined
join J wait A B = unless_too_long J (join_steps wait A B)

-- go on with a day that was joined
abbrev pub and_then : Joined → (List Step → Joined) → Joined
and_then (day P) f = f P
and_then day_too_long f = day_too_long

-- ---- calls: the answer of one, and what its slice holds after it
pub record Called : Type 0 where
  pub answer : Result Day Refusal
  pub after : List ℕ

abbrev pub join_call : Job → List ℕ → List ℕ → List ℕ → Called
join_call J a b slice = record { answer = join_answer J a b slice; after = left_by_join J a b slice }

-- the plan that a call has put at the front of its slice, three bytes a step
abbrev pub plan_in : Called → List ℕ
plan_in call = take (3 * (told call.answer).steps) call.after

-- a call made with the plan of another call; where that one was refused, its refusal, and the slice of the second call
-- as it was
abbrev pub go_on : Verdict → Called → (List ℕ → Called) → List ℕ → Called
go_on (Ok _) call next slice = next (plan_in call)
go_on (Err why) call next slice = record { answer = Err why; after = slice }

abbrev pub then_call : Called → (List ℕ → Called) → List ℕ → Called
then_call call next slice = go_on (verdict_of call.answer) call next slice
