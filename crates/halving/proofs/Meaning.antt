-- What follows for a caller of `halves`: request j's sentences, of the answer itself.
-- Assumes nothing.
use Rattle.timeline.specs.Day.{told}
use Rattle.job.specs.declared.refusal.Refusal.{Refusal}
use Rattle.std.specs.Prelude.{Result, Ok, Err}
use Prim.Native.Nat.{ℕ, ◌≤◌}
use mathlib.Core.Path.{◌≡◌, sym, ap, subst, ◌∙◌}
use mathlib.Core.Logic.{⊎_elim}
use mathlib.Core.List.{List, [], ◌∷◌}
use Rattle.encoding.specs.Bytes.{overwrite}
use Rattle.job.specs.Job.{Job}
use Rattle.job.specs.Refusal.{reply_of, verdict_of, ◌when◌, first, refused}
use Rattle.job.specs.declared.refusal.Refusal.TheVariants.{JoinedTooLong}
use Rattle.job.specs.Refusal.{Verdict}
use Rattle.job.specs.Refusal.{pass}
use Rattle.timeline.specs.Step.{Step, plan_bytes}
use Rattle.timeline.specs.Accepted.{Accepted}
use Rattle.timeline.specs.Day.{told_of, day_of}
use Rattle.timeline.specs.declared.Day.{Day}
use Rattle.timeline.proofs.DayLaws.{verdict_of_day, refused_not_passed}
use Rattle.checker.specs.Check.{check_plan}
use Rattle.makespan.specs.Makespan.{Makespan, ends_at, no_plan, makespan}
use Rattle.joining.specs.Join.{largest_handover, join_steps, too_long}
use Rattle.joining.specs.Answer.{left_by}
use Rattle.joining.proofs.JoinCalls.{nothing_behind}
use Rattle.listing.proofs.Places.{one_plan_at_place}
use Rattle.halving.specs.Afternoon.{afternoon}
use Rattle.halving.specs.Halves.{halves_rows, Answered, JoinedHalves, FirstListed, WithFirst, NoHalf, SecondHalf}
use Rattle.halving.specs.Halves.{BothHalves, HalvesBy, Halves}
use Rattle.halving.proofs.Answering.{DayOfHalves, day_or_refused}
use Rattle.halving.proofs.FirstPlans.{first_listed_accepted}
use Rattle.halving.proofs.PlannedHalves.{GoodDay, halves_are_good}

-- two answers to one question: the same refusal, or the same steps
same_answers : (v : Verdict) (J : Job) (P : List Step) (slice : List ℕ) (r s : Result Day Refusal) (after then : List ℕ)
    → Answered v J P slice r after → Answered v J P slice s then → (r ≡ s) × (after ≡ then)
same_answers v J P slice r s after then a b = (a.answers ∙ sym b.answers, a.leaves ∙ sym b.leaves)

module _ (J : Job) (halfway : ℕ) (slice : List ℕ) (answer : Result Day Refusal) (after : List ℕ)
    (h : Halves FirstListed J halfway slice answer after) where
  good : verdict_of answer ≡ pass → GoodDay J slice answer after
  good pass = halves_are_good FirstListed first_listed_accepted J halfway slice answer after pass h

  -- "A day joined from two halves so planned must pass the checker": its bytes are accepted for the job's goal, and the
  -- checker tells the same of them
  pub halves_pass_the_checker : verdict_of answer ≡ pass
      → (bytes : List ℕ) × (after ≡ overwrite slice 0 bytes) × Accepted J J.goal bytes ×
      (check_plan J bytes ≡ answer)
  halves_pass_the_checker pass =
      let day = good pass in (day.bytes, day.leaves, day.accepted, day.checked)

  -- "it never ends before the shortest whole day": there is one
  pub halves_not_before_shortest : verdict_of answer ≡ pass
      → (e : ℕ) × (makespan J J.goal ≡ ends_at e) × (e ≤ (told answer).end)
  halves_not_before_shortest pass = (good pass).shortest

  -- the halves of a day that is handed out
  halves_of : verdict_of answer ≡ pass → DayOfHalves FirstListed J halfway slice answer after
  halves_of pass =
      ⊎_elim (λ day. day)
      (λ none. absurd (refused_not_passed answer none.why none.told.answers pass))
      (day_or_refused FirstListed J halfway slice answer after h)

  -- the joined steps are told of, and stand at the front of the slice
  joined_handed_out : verdict_of answer ≡ pass → (P : List Step) → JoinedHalves J P slice answer after
      → (answer ≡ Ok (told_of J P)) × (after ≡ overwrite slice 0 (plan_bytes P))
  joined_handed_out handed P joined =
      let v = first (JoinedTooLong when too_long J P ∷ []) in
      let passes : v ≡ pass = sym (verdict_of_day v J P answer joined.answers) ∙ handed in (
        joined.answers ∙ ap (λ (w : Verdict). day_of w J P) passes,
        joined.leaves ∙ ap (λ (w : Verdict). left_by w P slice) passes,
      )

  -- "an empty half gives the other half": where the morning is empty, the afternoon's first plan
  pub empty_morning : FirstListed J halfway [] → verdict_of answer ≡ pass
      → (B : List Step) × FirstListed (afternoon J []) J.goal B × (answer ≡ Ok (told_of J B))
      × (after ≡ overwrite slice 0 (plan_bytes B))
  unfolding join_steps
  empty_morning nothing pass =
      let day = halves_of pass in
      let none : day.A ≡ [] = one_plan_at_place J halfway 0 day.A [] day.first_half nothing in
      let out = joined_handed_out pass day.B
      (subst (λ (A : List Step). JoinedHalves J (join_steps (largest_handover J) A day.B) slice answer after) none
      day.joined) in (
        day.B,
        subst (λ (A : List Step). FirstListed (afternoon J A) J.goal day.B) none day.second_half,
        out.0,
        out.1,
      )

  -- and where the afternoon behind the morning's first plan is empty, that plan
  pub empty_afternoon : (A : List Step) → FirstListed J halfway A → FirstListed (afternoon J A) J.goal []
      → verdict_of answer ≡ pass → (answer ≡ Ok (told_of J A)) × (after ≡ overwrite slice 0 (plan_bytes A))
  empty_afternoon A first_A nothing pass =
      let day = halves_of pass in
      let same : day.A ≡ A = one_plan_at_place J halfway 0 day.A A day.first_half first_A in
      let second : FirstListed (afternoon J A) J.goal day.B
      = subst (λ (P : List Step). FirstListed (afternoon J P) J.goal day.B) same day.second_half in
      let none : day.B ≡ [] = one_plan_at_place (afternoon J A) J.goal 0 day.B [] second nothing in
      let alone : join_steps (largest_handover J) day.A day.B ≡ A
      = ap (λ (P : List Step). join_steps (largest_handover J) P day.B) same
      ∙ ap (join_steps (largest_handover J) A) none ∙ nothing_behind (largest_handover J) A in
      joined_handed_out pass A
      (subst (λ (P : List Step). JoinedHalves J P slice answer after) alone day.joined)

  -- where no test before it refuses, by both halves
  module _ (tested : first (halves_rows J halfway slice) ≡ pass) where
    both : BothHalves FirstListed J halfway slice answer after
    both = subst (λ (v : Verdict). HalvesBy v FirstListed J halfway slice answer after) tested h

    -- "Either half without a plan is 22", the slice as it was
    is_22 : NoHalf J slice answer after → (reply_of answer ≡ refused 22) × (after ≡ slice)
    is_22 none = (none.replies, none.leaves)

    pub no_morning_is_22 : makespan J halfway ≡ no_plan → (reply_of answer ≡ refused 22) × (after ≡ slice)
    no_morning_is_22 none =
        is_22
        (subst (λ (m : Makespan).
        WithFirst FirstListed m J halfway (λ A. SecondHalf FirstListed J A slice answer after)
        (NoHalf J slice answer after)) none both)

    pub no_afternoon_is_22 : (A : List Step) → FirstListed J halfway A → makespan (afternoon J A) J.goal ≡ no_plan
        → (reply_of answer ≡ refused 22) × (after ≡ slice)
    no_afternoon_is_22 A first_A none = by_first (makespan J halfway) both
      where
        by_first : (m : Makespan) → WithFirst FirstListed m J halfway
            (λ P. SecondHalf FirstListed J P slice answer after) (NoHalf J slice answer after)
            → (reply_of answer ≡ refused 22) × (after ≡ slice)
        by_first (ends_at e) (P, first_P, rest) =
            let second : SecondHalf FirstListed J A slice answer after
            = subst (λ (R : List Step). SecondHalf FirstListed J R slice answer after)
            (one_plan_at_place J halfway 0 P A first_P first_A) rest in
            is_22
            (subst (λ (m : Makespan).
            WithFirst FirstListed m (afternoon J A) J.goal
            (λ B. JoinedHalves J (join_steps (largest_handover J) A B) slice answer after)
            (NoHalf J slice answer after)) none second)
        by_first no_plan p = is_22 p

-- what `halves` promises leaves nothing open: of two answers to one question both are the same, and so are the slices
module _ (J : Job) (halfway : ℕ) (slice : List ℕ) (r s : Result Day Refusal) (after then : List ℕ) where
  abbrev Same : Type 0
  Same = (r ≡ s) × (after ≡ then)

  same_second : (A : List Step) (m : Makespan)
      → WithFirst FirstListed m (afternoon J A) J.goal
      (λ B. JoinedHalves J (join_steps (largest_handover J) A B) slice r after) (NoHalf J slice r after)
      → WithFirst FirstListed m (afternoon J A) J.goal
      (λ B. JoinedHalves J (join_steps (largest_handover J) A B) slice s then) (NoHalf J slice s then) → Same
  same_second A (ends_at e) (B, first_B, a) (C, first_C, b) =
      let one = one_plan_at_place (afternoon J A) J.goal 0 C B first_C first_B in
      same_answers _ J (join_steps (largest_handover J) A B) slice r s after then a
      (subst (λ (P : List Step). JoinedHalves J (join_steps (largest_handover J) A P) slice s then) one b)
  same_second A no_plan a b = same_answers _ J [] slice r s after then a b

  same_first : (m : Makespan)
      → WithFirst FirstListed m J halfway (λ A. SecondHalf FirstListed J A slice r after) (NoHalf J slice r after)
      → WithFirst FirstListed m J halfway (λ A. SecondHalf FirstListed J A slice s then) (NoHalf J slice s then)
      → Same
  same_first (ends_at e) (A, first_A, a) (P, first_P, b) =
      same_second A (makespan (afternoon J A) J.goal) a
      (subst (λ (R : List Step). SecondHalf FirstListed J R slice s then)
      (one_plan_at_place J halfway 0 P A first_P first_A) b)
  same_first no_plan a b = same_answers _ J [] slice r s after then a b

  pub one_answer : Halves FirstListed J halfway slice r after → Halves FirstListed J halfway slice s then
      → (r ≡ s) × (after ≡ then)
  one_answer = by_verdict (first (halves_rows J halfway slice))
    where
      by_verdict : (v : Verdict) → HalvesBy v FirstListed J halfway slice r after
          → HalvesBy v FirstListed J halfway slice s then → (r ≡ s) × (after ≡ then)
      by_verdict (Ok _) a b = same_first (makespan J halfway) a b
      by_verdict (Err why) a b = same_answers _ J [] slice r s after then a b
