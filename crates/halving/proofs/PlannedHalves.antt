-- Whatever list of accepted plans the halves are taken from: a day handed out passes the checker, which tells the same
-- of it, and never ends before the shortest whole day.
-- Assumes nothing.
use Rattle.timeline.specs.Day.{told}
use Rattle.job.specs.declared.refusal.Refusal.{Refusal}
use Rattle.std.specs.Prelude.{Result, Ok, Err}
use Prim.Native.Nat.{ℕ, ◌≤◌}
use mathlib.Core.Path.{◌≡◌, sym, ap, subst, ◌∙◌}
use mathlib.Core.Bool.{false}
use mathlib.Core.Logic.{⊎_elim}
use mathlib.Core.List.{List, [], ◌∷◌}
use native.Mathlib.Omega.{arith}
use Rattle.encoding.specs.Bytes.{overwrite}
use Rattle.job.specs.Job.{Job}
use Rattle.job.specs.Passed.{Passed}
use Rattle.job.specs.Refusal.{verdict_of, ◌when◌, first}
use Rattle.job.specs.Valid.{job_rows}
use Rattle.job.specs.declared.refusal.Refusal.TheVariants.{JoinedTooLong}
use Rattle.job.specs.Refusal.{Verdict}
use Rattle.job.specs.Refusal.{pass}
use Rattle.job.proofs.Passed.{passed}
use Rattle.job.proofs.Table.{first_pass, first_append_pass}
use Rattle.timeline.specs.Step.{Step, steps_in, plan_bytes}
use Rattle.timeline.specs.Timeline.{end}
use Rattle.timeline.specs.Accepted.{Accepted}
use Rattle.timeline.specs.Day.{told_of, day_of}
use Rattle.timeline.specs.declared.Day.{Day}
use Rattle.timeline.proofs.DayLaws.{verdict_of_day, refused_not_passed}
use Rattle.checker.specs.Check.{check_rows, check_plan}
use Rattle.makespan.specs.Makespan.{ends_at, makespan}
use Rattle.joining.specs.Join.{largest_handover, join_steps, joined_steps, too_long}
use Rattle.joining.specs.Answer.{left_by}
use Rattle.halving.specs.Afternoon.{afternoon}
use Rattle.halving.specs.Halves.{Answered, JoinedHalves, FirstOf, Halves}
use Rattle.halving.proofs.Afternoons.{afternoon_within, afternoon_steps_in}
use Rattle.halving.proofs.Answering.{DayOfHalves, day_or_refused}
use Rattle.halving.proofs.JoinedHalves.{joined_halves_accepted, joined_not_before_shortest}

-- what is asked of the list: its first plan, of a job within its limits, is accepted, and its bytes mean its steps
abbrev pub FirstAccepted : FirstOf → Type 0
FirstAccepted First =
    (J : Job) (goal : ℕ) (P : List Step) → Passed J → First J goal P
    → Accepted J goal (plan_bytes P) × (steps_in J (plan_bytes P) ≡ P)

-- "A day joined from two halves so planned must pass the checker; it never ends before the shortest whole day."
pub record GoodDay (J : Job) (slice : List ℕ) (answer : Result Day Refusal) (after : List ℕ) : Type 0 where
  pub bytes : List ℕ
  pub leaves : after ≡ overwrite slice 0 bytes
  pub accepted : Accepted J J.goal bytes
  pub checked : check_plan J bytes ≡ answer
  pub shortest : (e : ℕ) × (makespan J J.goal ≡ ends_at e) × (e ≤ (told answer).end)

module _ (First : FirstOf) (good : FirstAccepted First) (J : Job) (halfway : ℕ) (slice : List ℕ) (answer : Result Day Refusal)
    (after : List ℕ) (handed : verdict_of answer ≡ pass) where
  verdict_passes : (v : Verdict) (P : List Step) → Answered v J P slice answer after → v ≡ pass
  verdict_passes v P h = sym (verdict_of_day v J P answer h.answers) ∙ handed

  module _ (valid : first (job_rows J) ≡ pass) where
    accepted_checked : (bytes : List ℕ) → Accepted J J.goal bytes
        → check_plan J bytes ≡ Ok (told_of J (steps_in J bytes))
    unfolding check_plan check_rows
    accepted_checked bytes accepted =
        ap (λ (v : Verdict). day_of v J (steps_in J bytes)) (first_append_pass (job_rows J) _ valid ∙ accepted)

    -- two accepted halves, joined
    good_when_joined : (A B : List Step) → Accepted J halfway (plan_bytes A) → steps_in J (plan_bytes A) ≡ A
        → Accepted (afternoon J A) J.goal (plan_bytes B) → steps_in (afternoon J A) (plan_bytes B) ≡ B
        → JoinedHalves J (join_steps (largest_handover J) A B) slice answer after → GoodDay J slice answer after
    good_when_joined A B first_ok first_same second_ok second_same joined =
        let P = join_steps (largest_handover J) A B in
        let v = first (JoinedTooLong when too_long J P ∷ []) in
        let short : too_long J P ≡ false = (first_pass JoinedTooLong _ [] (verdict_passes v P joined)).0 in
        let steps : joined_steps J (plan_bytes A) (plan_bytes B) ≡ P
        = ap (λ (R : List Step). join_steps (largest_handover J) R (steps_in J (plan_bytes B))) first_same
        ∙ ap (join_steps (largest_handover J) A) (sym (afternoon_steps_in J A (plan_bytes B)) ∙ second_same) in
        let same_job = ap (afternoon J) (sym first_same) in
        let second_too : Accepted (afternoon J (steps_in J (plan_bytes A))) J.goal (plan_bytes B)
        = subst (λ (K : Job). Accepted K J.goal (plan_bytes B)) same_job second_ok in
        let short_too = ap (too_long J) steps ∙ short in
        let plan = joined_halves_accepted J halfway J.goal (plan_bytes A) (plan_bytes B) (passed J valid) first_ok
        second_too short_too in
        let least = joined_not_before_shortest J halfway J.goal (plan_bytes A) (plan_bytes B)
        (passed J valid) first_ok
        second_too short_too in
        let ok : Accepted J J.goal (plan_bytes P)
        = subst (λ (R : List Step). Accepted J J.goal (plan_bytes R)) steps plan.0 in
        let back : steps_in J (plan_bytes P) ≡ P
        = subst (λ (R : List Step). steps_in J (plan_bytes R) ≡ R) steps plan.1 in
        let answers : answer ≡ Ok (told_of J P)
        = joined.answers ∙ ap (λ (w : Verdict). day_of w J P) (verdict_passes v P joined) in
        let ends : (told answer).end ≡ end P = ap (λ (d : Result Day Refusal). (told d).end) answers in
        let by = least.2 in
        let last = ap end steps in
        record {
          bytes = plan_bytes P;
          leaves = joined.leaves ∙ ap (λ (w : Verdict). left_by w P slice) (verdict_passes v P joined);
          accepted = ok;
          checked = accepted_checked (plan_bytes P) ok ∙ ap (λ (R : List Step). Ok (told_of J R)) back ∙ sym answers;
          shortest = (least.0, least.1, omega arith);
        }

    good_of_halves : DayOfHalves First J halfway slice answer after → GoodDay J slice answer after
    good_of_halves day =
        let half = good J halfway day.A (passed J valid) day.first_half in
        let second = good (afternoon J day.A) J.goal day.B
        (afternoon_within J valid halfway day.A half.0 half.1) day.second_half in
        good_when_joined day.A day.B half.0 half.1 second.0 second.1 day.joined

  pub halves_are_good : Halves First J halfway slice answer after → GoodDay J slice answer after
  halves_are_good h =
      ⊎_elim (λ day. good_of_halves day.valid day)
      (λ refused. absurd (refused_not_passed answer refused.why refused.told.answers handed))
      (day_or_refused First J halfway slice answer after h)
