-- What `print_answer` asks of a day that a program plans.
-- Assumes nothing.
use Rattle.std.proofs.Common.{◌≡◌, ◌≤◌, refl}
use Rattle.std.specs.Prelude.{Result, Ok, Err, IfOk}
use Rattle.job.specs.declared.refusal.Refusal.{Refusal}
use Rattle.job.specs.Refusal.{pass, verdict_of}
use Rattle.timeline.specs.declared.Day.{Day}
use Rattle.timeline.specs.Day.{told}

-- a day that is handed out has at most 32 steps, where what is told of an answer that passes has
pub few_in_day : (answer : Result Day Refusal) → (verdict_of answer ≡ pass → (told answer).steps ≤ 32)
    → IfOk answer (λ day. day.steps ≤ 32)
few_in_day (Ok day) few = few refl
few_in_day (Err why) few = tt
