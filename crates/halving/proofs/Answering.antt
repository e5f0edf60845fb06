-- What `halves` answers: a refusal, or the day joined from the first plans of both lists.
-- Assumes nothing.
use Rattle.std.specs.Prelude.{Result, Ok, Err}
use Prim.Native.Nat.{ℕ}
use mathlib.Core.Path.{◌≡◌, refl}
use mathlib.Core.Logic.{◌⊎◌, inl, inr}
use mathlib.Core.List.{List, []}
use Rattle.job.specs.Job.{Job}
use Rattle.job.specs.Refusal.{reply_of, first}
use Rattle.job.specs.Valid.{job_rows}
use Rattle.job.specs.declared.refusal.Refusal.{Refusal}
use Rattle.job.specs.declared.refusal.Refusal.TheVariants.{NoPlan}
use Rattle.job.specs.Refusal.{Verdict}
use Rattle.job.specs.Refusal.{pass}
use Rattle.job.proofs.Table.{pass_of_append}
use Rattle.timeline.specs.Step.{Step}
use Rattle.timeline.specs.Day.{day_of}
use Rattle.timeline.specs.declared.Day.{Day}
use Rattle.timeline.proofs.DayLaws.{reply_of_day}
use Rattle.makespan.specs.Makespan.{Makespan, ends_at, no_plan, makespan}
use Rattle.joining.specs.Join.{largest_handover, join_steps}
use Rattle.joining.specs.Answer.{left_by}
use Rattle.halving.specs.Afternoon.{afternoon}
use Rattle.halving.specs.Halves.{halves_rows, Answered, JoinedHalves, FirstOf, WithFirst, NoHalf}
use Rattle.halving.specs.Halves.{SecondHalf, HalvesBy, Halves}

-- the reply follows from the answer
pub answered : (v : Verdict) (J : Job) (P : List Step) (slice : List ℕ) (answer : Result Day Refusal) (after : List ℕ)
    → answer ≡ day_of v J P → after ≡ left_by v P slice → Answered v J P slice answer after
answered v J P slice answer after told left =
    record { answers = told; replies = rw told (reply_of_day v J P); leaves = left }

-- the first plans A and B of both lists, and the day joined from them
pub record DayOfHalves (First : FirstOf) (J : Job) (halfway : ℕ) (slice : List ℕ) (answer : Result Day Refusal) (after : List ℕ)
    : Type 0 where
  pub valid : first (job_rows J) ≡ pass
  pub A : List Step
  pub first_half : First J halfway A
  pub B : List Step
  pub second_half : First (afternoon J A) J.goal B
  pub joined : JoinedHalves J (join_steps (largest_handover J) A B) slice answer after

pub record RefusedHalves (J : Job) (slice : List ℕ) (answer : Result Day Refusal) (after : List ℕ) : Type 0 where
  pub why : Refusal
  pub told : Answered (Err why) J [] slice answer after

module _ (First : FirstOf) (J : Job) (halfway : ℕ) (slice : List ℕ) (answer : Result Day Refusal) (after : List ℕ) where
  abbrev Either : Type 0
  Either = DayOfHalves First J halfway slice answer after ⊎ RefusedHalves J slice answer after

  with_second : first (job_rows J) ≡ pass → (A : List Step) → First J halfway A → (m : Makespan)
      → WithFirst First m (afternoon J A) J.goal
      (λ B. JoinedHalves J (join_steps (largest_handover J) A B) slice answer after) (NoHalf J slice answer after)
      → Either
  with_second valid A first_A (ends_at e) (B, first_B, joined) =
      inl (record { valid = valid; A = A; first_half = first_A; B = B; second_half = first_B; joined = joined })
  with_second valid A first_A no_plan none = inr (record { why = NoPlan; told = none })

  with_first : first (job_rows J) ≡ pass → (m : Makespan)
      → WithFirst First m J halfway (λ A. SecondHalf First J A slice answer after) (NoHalf J slice answer after)
      → Either
  with_first valid (ends_at e) (A, first_A, rest) =
      with_second valid A first_A (makespan (afternoon J A) J.goal) rest
  with_first valid no_plan none = inr (record { why = NoPlan; told = none })

  by_verdict : (v : Verdict) → first (halves_rows J halfway slice) ≡ v → HalvesBy v First J halfway slice answer after
      → Either
  by_verdict (Ok _) e p = with_first (pass_of_append (job_rows J) _ e).0 (makespan J halfway) p
  by_verdict (Err why) e p = inr (record { why = why; told = p })

  pub day_or_refused : Halves First J halfway slice answer after
      → DayOfHalves First J halfway slice answer after ⊎ RefusedHalves J slice answer after
  day_or_refused h = by_verdict (first (halves_rows J halfway slice)) refl h
