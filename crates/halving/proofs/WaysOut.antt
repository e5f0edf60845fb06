-- The ways out of `halves`: a refusal of the job, of the halfway set or of the slice, a half without a plan, or the day
-- joined from both.
-- Assumes nothing.
use Rattle.std.specs.Prelude.{Result, Ok, Err}
use Prim.Native.Nat.{ℕ, ◌<◌, ◌≤◌}
use mathlib.Core.Path.{◌≡◌, refl, sym, subst, ◌∙◌}
use mathlib.Core.Bool.{true, false}
use mathlib.Core.List.{List, []}
use lib.ListN.{length}
use borrow.Author.Tests.{lt-ltb, le-ltb}
use Rattle.facts.specs.FactSet.{foreign}
use Rattle.job.specs.Job.{Job}
use Rattle.job.specs.Refusal.{first}
use Rattle.job.specs.Valid.{job_rows}
use Rattle.job.specs.declared.refusal.Refusal.{Refusal}
use Rattle.job.specs.declared.refusal.Refusal.TheVariants.{ForeignAskedFact, PlanSlice, NoPlan}
use Rattle.job.specs.Refusal.{Verdict}
use Rattle.job.specs.Refusal.{pass}
use Rattle.job.proofs.Table.{first_here, first_next, first_append_pass, first_append_refused, first_none}
use Rattle.timeline.specs.Step.{Step}
use Rattle.timeline.specs.declared.Day.{Day}
use Rattle.makespan.specs.Makespan.{Makespan, ends_at, no_plan, makespan}
use Rattle.joining.specs.Join.{largest_handover, join_steps}
use Rattle.halving.specs.Afternoon.{afternoon}
use Rattle.halving.specs.Halves.{halves_rows, Answered, JoinedHalves, FirstOf, WithFirst, NoHalf}
use Rattle.halving.specs.Halves.{SecondHalf, HalvesBy, Halves}
use Rattle.halving.proofs.Answering.{answered}

module _ (First : FirstOf) (J : Job) (halfway : ℕ) (slice : List ℕ) (r : Result Day Refusal) where
  by_verdict : (v : Verdict) (after : List ℕ) → first (halves_rows J halfway slice) ≡ v
      → HalvesBy v First J halfway slice r after → Halves First J halfway slice r after
  by_verdict v after e h = subst (λ (w : Verdict). HalvesBy w First J halfway slice r after) (sym e) h

  -- the refusal, and the slice as it was
  refusal : (why : Refusal) → r ≡ Err why → Answered (Err why) J [] slice r slice
  refusal why d = answered (Err why) J [] slice r slice d refl

  pub halves_refused : (why : Refusal) → r ≡ Err why → first (job_rows J) ≡ Err why
      → Halves First J halfway slice r slice
  halves_refused why d h = by_verdict (Err why) slice (first_append_refused (job_rows J) _ why h) (refusal why d)

  module _ (valid : first (job_rows J) ≡ pass) where
    pub halves_foreign : r ≡ Err ForeignAskedFact → foreign J.facts halfway ≡ true
        → Halves First J halfway slice r slice
    halves_foreign d h =
        by_verdict (Err ForeignAskedFact) slice
        (first_append_pass (job_rows J) _ valid ∙ first_here ForeignAskedFact _ _ h) (refusal ForeignAskedFact d)

    module _ (own : foreign J.facts halfway ≡ false) where
      pub halves_short_slice : r ≡ Err PlanSlice → length slice < 96 → Halves First J halfway slice r slice
      halves_short_slice d short =
          by_verdict (Err PlanSlice) slice
          (first_append_pass (job_rows J) _ valid
          ∙ first_next ForeignAskedFact _ _ own
          ∙ first_here PlanSlice _ _ (lt-ltb (length slice) 96 short)) (refusal PlanSlice d)

      module _ (room : 96 ≤ length slice) where
        both : (after : List ℕ) (m : Makespan) → makespan J halfway ≡ m
            → WithFirst First m J halfway (λ A. SecondHalf First J A slice r after) (NoHalf J slice r after)
            → Halves First J halfway slice r after
        both after m e h =
            by_verdict pass after
            (first_append_pass (job_rows J) _ valid
            ∙ first_next ForeignAskedFact _ _ own
            ∙ first_next PlanSlice _ [] (le-ltb (length slice) 96 room) ∙ first_none)
            (subst (λ (k : Makespan).
            WithFirst First k J halfway (λ A. SecondHalf First J A slice r after) (NoHalf J slice r after)) (sym e) h)

        pub halves_without_first : r ≡ Err NoPlan → makespan J halfway ≡ no_plan → Halves First J halfway slice r slice
        halves_without_first d e = both slice no_plan e (refusal NoPlan d)

        module _ (T : ℕ) (e : makespan J halfway ≡ ends_at T) (A : List Step) (first_A : First J halfway A) where
          with_second : (after : List ℕ) (m : Makespan) → makespan (afternoon J A) J.goal ≡ m
              → WithFirst First m (afternoon J A) J.goal
              (λ B. JoinedHalves J (join_steps (largest_handover J) A B) slice r after) (NoHalf J slice r after)
              → Halves First J halfway slice r after
          with_second after m same h =
              both after (ends_at T) e (
                A,
                first_A,
                subst (λ (k : Makespan).
                    WithFirst First k (afternoon J A) J.goal
                    (λ B. JoinedHalves J (join_steps (largest_handover J) A B) slice r after) (NoHalf J slice r after))
                    (sym same) h,
              )

          pub halves_without_second : r ≡ Err NoPlan → makespan (afternoon J A) J.goal ≡ no_plan
              → Halves First J halfway slice r slice
          halves_without_second d same = with_second slice no_plan same (refusal NoPlan d)

          pub halves_both : (after : List ℕ) (U : ℕ) → makespan (afternoon J A) J.goal ≡ ends_at U
              → (B : List Step) → First (afternoon J A) J.goal B
              → JoinedHalves J (join_steps (largest_handover J) A B) slice r after
              → Halves First J halfway slice r after
          halves_both after U same B first_B joined = with_second after (ends_at U) same (B, first_B, joined)
