-- The ways out of the call: a refusal of the job, of the plan or of the lengths, or the true day.
-- Assumes nothing.
use Rattle.std.specs.Prelude.{Result, Ok, Err}
use Prim.Native.Nat.{ℕ}
use mathlib.Core.Path.{◌≡◌, sym, ap, ◌∙◌}
use mathlib.Core.Bool.{true, false}
use mathlib.Core.List.{List, []}
use lib.ListN.{length}
use Rattle.job.specs.declared.refusal.Refusal.{Refusal}
use Rattle.job.specs.declared.refusal.Refusal.TheVariants.{TrueLengths}
use Rattle.job.specs.Refusal.{Verdict}
use Rattle.job.specs.Refusal.{pass}
use Rattle.job.specs.Job.{Job}
use Rattle.job.specs.Refusal.{first}
use Rattle.job.specs.Valid.{job_rows}
use Rattle.job.proofs.Table.{first_here, first_next, first_none, first_append_pass, first_append_refused}
use Rattle.timeline.specs.declared.Day.{Day}
use Rattle.timeline.specs.Step.{Step, steps_in}
use Rattle.timeline.specs.Timeline.{end, peaks}
use Rattle.timeline.specs.Accepted.{plan_rows}
use Rattle.timeline.specs.Day.{told_of, day_of}
use Rattle.timeline.specs.TrueLengths.{wrong_lengths}
use Rattle.timeline.proofs.DayLaws.{reply_of_day}
use Rattle.checker.specs.Check.{check_rows}
use Rattle.true_day.specs.TrueDay.{true_rows, true_steps, true_day, TellsTrueDay}

module _ (J : Job) (bytes lengths : List ℕ) (r : Result Day Refusal) where
  by_verdict : (v : Verdict) → first (true_rows J bytes lengths) ≡ v → r ≡ day_of v J (true_steps J bytes lengths)
      → TellsTrueDay J bytes lengths r
  unfolding true_day
  by_verdict v h d =
      let P = true_steps J bytes lengths in
      let answers : r ≡ day_of (first (true_rows J bytes lengths)) J P = d ∙ sym (ap (λ (w : Verdict). day_of w J P) h) in
      record { answers = answers; replies = rw answers (reply_of_day (first (true_rows J bytes lengths)) J P) }

  pub tells_refused_job : (why : Refusal) → r ≡ Err why → first (job_rows J) ≡ Err why
      → TellsTrueDay J bytes lengths r
  unfolding true_rows check_rows
  tells_refused_job why d h =
      by_verdict (Err why)
      (first_append_refused (check_rows J bytes) _ why (first_append_refused (job_rows J) _ why h)) d

  module _ (valid : first (job_rows J) ≡ pass) where
    checked : (v : Verdict) → first (plan_rows J J.goal bytes) ≡ v → first (check_rows J bytes) ≡ v
    unfolding check_rows
    checked v h = first_append_pass (job_rows J) _ valid ∙ h

    pub tells_refused_plan : (why : Refusal) → r ≡ Err why → first (plan_rows J J.goal bytes) ≡ Err why
        → TellsTrueDay J bytes lengths r
    unfolding true_rows
    tells_refused_plan why d h =
        by_verdict (Err why) (first_append_refused (check_rows J bytes) _ why (checked _ h)) d

    module _ (accepted : first (plan_rows J J.goal bytes) ≡ pass) where
      pub tells_wrong_lengths : r ≡ Err TrueLengths → wrong_lengths J (steps_in J bytes) lengths ≡ true
          → TellsTrueDay J bytes lengths r
      unfolding true_rows
      tells_wrong_lengths d h =
          by_verdict (Err TrueLengths)
          (first_append_pass (check_rows J bytes) _ (checked _ accepted) ∙ first_here TrueLengths _ [] h) d

      pub tells_day : wrong_lengths J (steps_in J bytes) lengths ≡ false
          → r ≡ Ok (told_of J (true_steps J bytes lengths)) → TellsTrueDay J bytes lengths r
      unfolding true_rows
      tells_day h d =
          by_verdict pass
          (first_append_pass (check_rows J bytes) _ (checked _ accepted) ∙ first_next TrueLengths _ [] h ∙ first_none) d

-- what is told of steps, by numbers that are theirs
pub told_of_steps : (J : Job) (P Q : List Step) (e n : ℕ) (most : List ℕ) → Q ≡ P → e ≡ end Q → n ≡ length Q
    → most ≡ peaks J Q → ◌≡◌ {A = Day} (record { end = e; steps = n; peaks = most }) (told_of J P)
told_of_steps J P Q e n most same ends count peak = rw (ends, count, peak, same)
