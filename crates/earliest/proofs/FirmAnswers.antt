-- What the call answers is a firm "not before" (document 02, l).
-- Assumes nothing.
use Rattle.times.specs.Time.{Time}
use Prim.Native.Nat.{ℕ, ◌≤◌}
use mathlib.Core.Path.{◌≡◌, ap, ◌∙◌, subst}
use mathlib.Core.List.{List}
use Rattle.facts.specs.FactSet.{Subset}
use Rattle.job.specs.Job.{Job}
use Rattle.job.specs.Refusal.{first}
use Rattle.job.specs.Valid.{job_rows}
use Rattle.job.specs.Refusal.{Verdict}
use Rattle.job.specs.Refusal.{pass}
use Rattle.job.proofs.Table.{pass_of_append}
use Rattle.timeline.specs.Step.{steps_in}
use Rattle.timeline.specs.Timeline.{end, held}
use Rattle.timeline.specs.Accepted.{run_rows}
use Rattle.times.proofs.Firm.{earliest_time_is_firm}
use Rattle.earliest.specs.Answer.{EarliestTime}
use Rattle.std.specs.Prelude.{Option, Some, None, Ok, Err}
use Rattle.earliest.specs.Answer.{answer_of, earliest_rows, AnswersBy, Answers}

-- a set that is not refused, and holds together at a minute of a plan that passes 12 to 19: the answer is a number, and
-- not above that minute
pub answer_is_firm : (J : Job) (set : ℕ) (r : EarliestTime) → Answers J set r → first (earliest_rows J set) ≡ pass
    → (bytes : List ℕ) → first (run_rows J bytes) ≡ pass → (t : ℕ) → t ≤ end (steps_in J bytes)
    → Subset set (held J.start (steps_in J bytes) t) → (x : ℕ) × (r ≡ Ok (Some x)) × (x ≤ t)
answer_is_firm J set r answers passes bytes runs t l holds =
    let by = subst (λ (v : Verdict). AnswersBy v J set r) passes answers in
    let table = by.0 in
    let firm = earliest_time_is_firm J (pass_of_append (job_rows J) _ passes).0 bytes runs table.0 table.1 set t l
    holds in
    (firm.0, (by.1 table.0 table.1).0 ∙ ap (λ (t : Time). Ok (answer_of t)) firm.1, firm.2)
