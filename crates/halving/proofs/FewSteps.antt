-- A day joined from two halves has at most 32 steps.
-- Assumes nothing.
use Rattle.timeline.specs.Day.{told}
use Rattle.job.specs.declared.refusal.Refusal.{Refusal}
use Rattle.std.specs.Prelude.{Result, Ok, Err}
use Prim.Native.Nat.{ℕ, ◌≤◌}
use mathlib.Core.Path.{◌≡◌, refl, ap}
use mathlib.Core.Logic.{⊎_elim}
use mathlib.Core.List.{List, [], ◌∷◌}
use native.Mathlib.Omega.{arith}
use Rattle.job.specs.Job.{Job}
use Rattle.job.specs.Refusal.{◌when◌, first}
use Rattle.job.specs.declared.refusal.Refusal.TheVariants.{JoinedTooLong}
use Rattle.job.specs.Refusal.{Verdict}
use Rattle.job.specs.Refusal.{pass}
use Rattle.job.proofs.Table.{first_pass}
use Rattle.timeline.specs.declared.Day.{Day}
use Rattle.timeline.specs.Step.{Step}
use Rattle.timeline.specs.Day.{day_of}
use Rattle.timeline.proofs.DayLaws.{few_without_day}
use Rattle.joining.specs.Join.{largest_handover, join_steps, too_long}
use Rattle.joining.proofs.JoinedShape.{few_unless_too_long}
use Rattle.halving.specs.Halves.{JoinedHalves, FirstListed, Halves}
use Rattle.halving.proofs.Answering.{day_or_refused}

module _ (J : Job) (halfway : ℕ) (slice : List ℕ) (answer : Result Day Refusal) (after : List ℕ) where
  few_when_joined : (P : List Step) → JoinedHalves J P slice answer after → (told answer).steps ≤ 32
  few_when_joined P joined = by_verdict (first (JoinedTooLong when too_long J P ∷ [])) refl joined.answers
    where
      by_verdict : (v : Verdict) → first (JoinedTooLong when too_long J P ∷ []) ≡ v → answer ≡ day_of v J P
          → (told answer).steps ≤ 32
      by_verdict (Ok _) e h =
          let few = few_unless_too_long J P (first_pass _ _ _ e).0 in
          let count = ap (λ (d : Result Day Refusal). (told d).steps) h in
          omega arith
      by_verdict (Err why) e h = few_without_day why answer h

  pub halves_steps_are_few : Halves FirstListed J halfway slice answer after → (told answer).steps ≤ 32
  halves_steps_are_few halves =
      ⊎_elim (λ day. few_when_joined (join_steps (largest_handover J) day.A day.B) day.joined)
      (λ refused. few_without_day refused.why answer refused.told.answers)
      (day_or_refused FirstListed J halfway slice answer after halves)
