-- The call `join`, made with two accepted halves and a slice of 96 bytes or more, joins them as `halves` must.
-- Assumes nothing.
use Rattle.job.specs.declared.refusal.Refusal.{Refusal}
use Rattle.std.specs.Prelude.{Result, Ok, Err}
use Prim.Native.Nat.{ℕ, ◌≤◌}
use mathlib.Core.Path.{◌≡◌, refl, sym, ap, ◌∙◌}
use mathlib.Core.List.{List, [], ◌∷◌}
use lib.ListN.{length}
use Rattle.job.specs.Job.{Job}
use Rattle.job.specs.Refusal.{◌when◌, first}
use Rattle.job.specs.Valid.{job_rows}
use Rattle.job.specs.declared.refusal.Refusal.TheVariants.{JoinedTooLong}
use Rattle.job.specs.Refusal.{Verdict}
use Rattle.job.specs.Refusal.{pass}
use Rattle.job.proofs.Table.{first_next, first_pass, pass_of_append}
use Rattle.timeline.specs.Step.{Step, steps_in, plan_bytes}
use Rattle.timeline.specs.Accepted.{order_rows, shape_rows, step_rows, plan_rows, Accepted}
use Rattle.timeline.specs.Day.{day_of}
use Rattle.timeline.specs.declared.Day.{Day}
use Rattle.joining.specs.Join.{largest_handover, join_steps, joined_steps, too_long}
use Rattle.joining.specs.Answer.{join_answer, left_by, left_by_join, Joins}
use Rattle.joining.proofs.JoinCalls.{rows_pass}
use Rattle.halving.specs.Afternoon.{afternoon}
use Rattle.halving.specs.Halves.{JoinedHalves}
use Rattle.halving.proofs.Afternoons.{afternoon_steps_in}
use Rattle.halving.proofs.Answering.{answered}

-- an accepted plan passes 12 to 15
shape_of_accepted : (J : Job) (goal : ℕ) (bytes : List ℕ) → Accepted J goal bytes → first (shape_rows J bytes) ≡ pass
unfolding plan_rows step_rows shape_rows
shape_of_accepted J goal bytes h =
    let size = first_pass _ _ _ h in
    first_next _ _ _ size.0 ∙ (pass_of_append (order_rows J (steps_in J bytes)) _ size.1).0

-- also of the job as given, where it is accepted in the afternoon
shape_in_afternoon : (J : Job) (A : List Step) (bytes : List ℕ)
    → first (shape_rows (afternoon J A) bytes) ≡ first (shape_rows J bytes)
unfolding shape_rows steps_in
shape_in_afternoon J A bytes = refl

pub halves_joined : (J : Job) → first (job_rows J) ≡ pass → (halfway : ℕ) (A B : List Step)
    → Accepted J halfway (plan_bytes A) → steps_in J (plan_bytes A) ≡ A
    → Accepted (afternoon J A) J.goal (plan_bytes B) → steps_in (afternoon J A) (plan_bytes B) ≡ B
    → (slice : List ℕ) (answer : Result Day Refusal) (after : List ℕ) → 96 ≤ length slice
    → Joins J (plan_bytes A) (plan_bytes B) slice answer after
    → JoinedHalves J (join_steps (largest_handover J) A B) slice answer after
unfolding join_answer left_by_join
halves_joined J valid halfway A B first_ok first_same second_ok second_same slice answer after room joins =
    let a = plan_bytes A in
    let b = plan_bytes B in
    let P = join_steps (largest_handover J) A B in
    let pb = sym (shape_in_afternoon J A b) ∙ shape_of_accepted (afternoon J A) J.goal b second_ok in
    let rows = rows_pass J valid a b slice (shape_of_accepted J halfway a first_ok) pb room in
    let steps : joined_steps J a b ≡ P
    = ap (λ (R : List Step). join_steps (largest_handover J) R (steps_in J b)) first_same
    ∙ ap (join_steps (largest_handover J) A) (sym (afternoon_steps_in J A b) ∙ second_same) in
    answered (first (JoinedTooLong when too_long J P ∷ [])) J P slice answer after
    (joins.answers
    ∙ ap (λ (v : Verdict). day_of v J (joined_steps J a b)) rows
    ∙ ap (λ (R : List Step). day_of (first (JoinedTooLong when too_long J R ∷ [])) J R) steps)
    (joins.leaves
    ∙ ap (λ (v : Verdict). left_by v (joined_steps J a b) slice) rows
    ∙ ap (λ (R : List Step). left_by (first (JoinedTooLong when too_long J R ∷ [])) R slice) steps)
