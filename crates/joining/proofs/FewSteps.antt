-- A joined plan has at most 32 steps.
-- Assumes nothing.
use Rattle.job.specs.declared.refusal.Refusal.{Refusal}
use Rattle.std.specs.Prelude.{Result, Ok, Err}
use Prim.Native.Nat.{ℕ, ◌≤◌}
use mathlib.Core.Path.{◌≡◌, refl, ap}
use mathlib.Core.List.{List}
use native.Mathlib.Omega.{arith}
use Rattle.job.specs.Job.{Job}
use Rattle.job.specs.Refusal.{first}
use Rattle.job.specs.Valid.{job_rows}
use Rattle.job.specs.Refusal.{Verdict}
use Rattle.job.proofs.Table.{first_pass, pass_of_append}
use Rattle.timeline.specs.declared.Day.{Day}
use Rattle.timeline.specs.Accepted.{shape_rows}
use Rattle.timeline.specs.Day.{day_of, told}
use Rattle.timeline.proofs.DayLaws.{few_without_day}
use Rattle.joining.specs.Join.{joined_steps}
use Rattle.joining.specs.Answer.{join_rows, join_answer}
use Rattle.joining.proofs.JoinedShape.{few_unless_too_long}

pub joined_steps_are_few : (J : Job) (a b slice : List ℕ) (answer : Result Day Refusal) → answer ≡ join_answer J a b slice
    → (told answer).steps ≤ 32
unfolding join_answer
joined_steps_are_few J a b slice answer answers = by_verdict (first (join_rows J a b slice)) refl answers
  where
    by_verdict : (v : Verdict) → first (join_rows J a b slice) ≡ v → answer ≡ day_of v J (joined_steps J a b)
        → (told answer).steps ≤ 32
    by_verdict (Ok _) e h =
        let plans = (pass_of_append (job_rows J) _ e).1 in
        let rest = (pass_of_append (shape_rows J b) _ (pass_of_append (shape_rows J a) _ plans).1).1 in
        let few = few_unless_too_long J (joined_steps J a b) (first_pass _ _ _ (first_pass _ _ _ rest).1).0 in
        let count = ap (λ (d : Result Day Refusal). (told d).steps) h in
        omega arith
    by_verdict (Err why) e h = few_without_day why answer h
