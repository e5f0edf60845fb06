-- The ways out of the join: a refusal of the job, of a plan, of the slice or of the joined plan, or the joined plan.
-- Assumes nothing.
use Rattle.std.specs.Prelude.{Result, Ok, Err}
use Prim.Native.Nat.{ℕ, ◌<◌, ◌≤◌}
use mathlib.Core.Path.{◌≡◌, refl, sym, ap, ◌∙◌}
use mathlib.Core.Bool.{true, false}
use mathlib.Core.List.{List, [], ◌∷◌}
use lib.Dec.{ltb}
use lib.ListN.{length}
use borrow.Author.Tests.{lt-ltb, le-ltb}
use Rattle.encoding.specs.Bytes.{overwrite}
use Rattle.job.specs.Job.{Job}
use Rattle.job.specs.Refusal.{◌when◌, first}
use Rattle.job.specs.Valid.{job_rows}
use Rattle.job.specs.declared.refusal.Refusal.{Refusal}
use Rattle.job.specs.declared.refusal.Refusal.TheVariants.{PlanSlice, JoinedTooLong}
use Rattle.job.specs.Refusal.{Verdict}
use Rattle.job.specs.Refusal.{pass}
use Rattle.job.proofs.Table.{first_here, first_next, first_append_pass, first_append_refused, first_none}
use Rattle.timeline.specs.Step.{plan_bytes}
use Rattle.timeline.specs.Accepted.{shape_rows}
use Rattle.timeline.specs.Day.{told_of, day_of}
use Rattle.timeline.specs.declared.Day.{Day}
use Rattle.timeline.proofs.DayLaws.{reply_of_day}
use Rattle.joining.specs.Join.{joined_steps, too_long}
use Rattle.joining.specs.Answer.{join_rows, join_answer, left_by, left_by_join, Joins}

module _ (J : Job) (a b slice : List ℕ) (r : Result Day Refusal) where
  by_verdict : (v : Verdict) (after : List ℕ) → first (join_rows J a b slice) ≡ v → r ≡ day_of v J (joined_steps J a b)
      → after ≡ left_by v (joined_steps J a b) slice → Joins J a b slice r after
  unfolding join_answer left_by_join
  by_verdict v after h d l =
      let P = joined_steps J a b in
      let answers : r ≡ day_of (first (join_rows J a b slice)) J P = d ∙ sym (ap (λ (w : Verdict). day_of w J P) h) in
      record {
        answers = answers;
        replies = rw answers (reply_of_day (first (join_rows J a b slice)) J P);
        leaves = l ∙ sym (ap (λ (w : Verdict). left_by w P slice) h);
      }

  pub joins_refused_job : (why : Refusal) → r ≡ Err why → first (job_rows J) ≡ Err why → Joins J a b slice r slice
  joins_refused_job why d h = by_verdict (Err why) slice (first_append_refused (job_rows J) _ why h) d refl

  module _ (valid : first (job_rows J) ≡ pass) where
    pub joins_refused_first : (why : Refusal) → r ≡ Err why → first (shape_rows J a) ≡ Err why
        → Joins J a b slice r slice
    joins_refused_first why d h =
        by_verdict (Err why) slice
        (first_append_pass (job_rows J) _ valid ∙ first_append_refused (shape_rows J a) _ why h) d refl

    module _ (pa : first (shape_rows J a) ≡ pass) where
      pub joins_refused_second : (why : Refusal) → r ≡ Err why → first (shape_rows J b) ≡ Err why
          → Joins J a b slice r slice
      joins_refused_second why d h =
          by_verdict (Err why) slice
          (first_append_pass (job_rows J) _ valid
          ∙ first_append_pass (shape_rows J a) _ pa
          ∙ first_append_refused (shape_rows J b) _ why h) d refl

      module _ (pb : first (shape_rows J b) ≡ pass) where
        plans_pass : (v : Verdict)
            → first (PlanSlice when ltb (length slice) 96 ∷ JoinedTooLong when too_long J (joined_steps J a b) ∷ []) ≡ v
            → first (join_rows J a b slice) ≡ v
        plans_pass v h =
            first_append_pass (job_rows J) _ valid
            ∙ first_append_pass (shape_rows J a) _ pa
            ∙ first_append_pass (shape_rows J b) _ pb ∙ h

        pub joins_short_slice : r ≡ Err PlanSlice → length slice < 96 → Joins J a b slice r slice
        joins_short_slice d short =
            by_verdict (Err PlanSlice) slice
            (plans_pass _ (first_here PlanSlice _ _ (lt-ltb (length slice) 96 short))) d refl

        module _ (room : 96 ≤ length slice) where
          pub joins_too_long : r ≡ Err JoinedTooLong → too_long J (joined_steps J a b) ≡ true
              → Joins J a b slice r slice
          joins_too_long d long =
              by_verdict (Err JoinedTooLong) slice
              (plans_pass _
              (first_next PlanSlice _ _ (le-ltb (length slice) 96 room) ∙ first_here JoinedTooLong _ [] long)) d refl

          pub joins_day : (after : List ℕ) → too_long J (joined_steps J a b) ≡ false
              → r ≡ Ok (told_of J (joined_steps J a b)) → after ≡ overwrite slice 0 (plan_bytes (joined_steps J a b))
              → Joins J a b slice r after
          joins_day after short d l =
              by_verdict pass after
              (plans_pass _
              (first_next PlanSlice _ _ (le-ltb (length slice) 96 room)
              ∙ first_next JoinedTooLong _ [] short ∙ first_none)) d l
