-- What follows for a caller of `join`: the sentences of requests j and k, of the answers themselves.
-- Assumes nothing.
use Rattle.std.specs.Prelude.{Result, Ok, Err}
use Prim.Native.Nat.{ℕ, ◌≤◌}
use mathlib.Core.Path.{◌≡◌, sym, ap, ◌∙◌}
use mathlib.Core.Logic.{◌⊎◌, inl, inr, ⊎_elim}
use mathlib.Core.List.{List, []}
use lib.ListN.{length}
use Rattle.encoding.specs.Bytes.{overwrite}
use Rattle.encoding.proofs.Parts.{Bytes}
use Rattle.job.specs.Job.{Job}
use Rattle.job.specs.Refusal.{reply_of, verdict_of, first, refused}
use Rattle.job.specs.Valid.{job_rows}
use Rattle.job.specs.declared.refusal.Refusal.{Refusal}
use Rattle.job.specs.declared.refusal.Refusal.TheVariants.{JoinedTooLong}
use Rattle.job.specs.Refusal.{Verdict}
use Rattle.job.specs.Refusal.{pass}
use Rattle.timeline.specs.Step.{steps_in}
use Rattle.timeline.specs.Accepted.{shape_rows}
use Rattle.timeline.specs.Day.{told_of}
use Rattle.timeline.specs.declared.Day.{Day}
use Rattle.joining.specs.Join.{largest_handover}
use Rattle.joining.specs.Answer.{Joins}
use Rattle.joining.specs.Parts.{Joined, day, day_too_long, join, Called, join_call, plan_in, go_on, then_call}
use Rattle.joining.proofs.JoinCalls.{answer_by, called, call_joins, join_calls_associate, empty_changes_nothing}

-- the parts of two calls that are the same
parts_of : (r s : Result Day Refusal) (after then : List ℕ)
    → ◌≡◌ {A = Called} (record { answer = r; after = after }) (record { answer = s; after = then })
    → (r ≡ s) × (after ≡ then)
parts_of r s after then e = (ap (λ (call : Called). call.answer) e, ap (λ (call : Called). call.after) e)

-- on with the plan of a call, and not on from a refusal
went_on : (call : Called) (next : List ℕ → Called) (slice : List ℕ) → verdict_of call.answer ≡ pass
    → then_call call next slice ≡ next (plan_in call)
went_on call next slice passes = ap (λ (v : Verdict). go_on v call next slice) passes

stopped : (call : Called) (next : List ℕ → Called) (slice : List ℕ) (why : Refusal)
    → verdict_of call.answer ≡ Err why → then_call call next slice ≡ record { answer = Err why; after = slice }
stopped call next slice why e = ap (λ (v : Verdict). go_on v call next slice) e

-- 34, and the slice as it was
abbrev pub Is34 : List ℕ → Result Day Refusal → List ℕ → Type 0
Is34 slice r after = (reply_of r ≡ refused 34) × (r ≡ Err JoinedTooLong) × (after ≡ slice)

is_34 : (slice : List ℕ) (r : Result Day Refusal) (after : List ℕ)
    → ◌≡◌ {A = Called} (record { answer = r; after = after }) (record { answer = Err JoinedTooLong; after = slice })
    → Is34 slice r after
is_34 slice r after e =
    let parts = parts_of r (Err JoinedTooLong) after slice e in (ap reply_of parts.0, parts.0, parts.1)

module _ (J : Job) (valid : first (job_rows J) ≡ pass) where
  -- two plans that pass 12 to 15, joined in a slice of 96 bytes or more, are a day, or 34
  pub day_or_34 : (a b slice : List ℕ) → first (shape_rows J a) ≡ pass → first (shape_rows J b) ≡ pass
      → 96 ≤ length slice → (r : Result Day Refusal) (after : List ℕ) → Joins J a b slice r after
      → (verdict_of r ≡ pass) ⊎ Is34 slice r after
  day_or_34 a b slice pa pb room r after joins =
      by_day (join J (largest_handover J) (steps_in J a) (steps_in J b))
      (called J a b slice r after joins ∙ call_joins J valid a b slice pa pb room)
    where
      by_day : (d : Joined) → record { answer = r; after = after } ≡ answer_by J d slice
          → (verdict_of r ≡ pass) ⊎ Is34 slice r after
      by_day (day P) e = inl (ap (λ (call : Called). (verdict_of call.answer)) e)
      by_day day_too_long e = inr (is_34 slice r after e)

  -- "The empty plan on either side changes nothing": the other plan is told of, and stands at the front of the slice
  pub empty_gives_the_other : (a slice : List ℕ) → first (shape_rows J a) ≡ pass → Bytes a → 96 ≤ length slice
      → (r : Result Day Refusal) (after : List ℕ) → Joins J [] a slice r after ⊎ Joins J a [] slice r after
      → (r ≡ Ok (told_of J (steps_in J a))) × (after ≡ overwrite slice 0 a)
  empty_gives_the_other a slice pa small room r after joins =
      let nothing = empty_changes_nothing J valid a slice pa small room in
      ⊎_elim (λ j. parts_of r _ after _ (called J [] a slice r after j ∙ nothing.0))
      (λ j. parts_of r _ after _ (called J a [] slice r after j ∙ nothing.1)) joins

  -- three plans that pass 12 to 15, slices of 96 bytes or more, and the two joins that come first
  module _ (a b c left right slice : List ℕ) (pa : first (shape_rows J a) ≡ pass) (pb : first (shape_rows J b) ≡ pass)
      (pc : first (shape_rows J c) ≡ pass) (room_left : 96 ≤ length left) (room_right : 96 ≤ length right)
      (room : 96 ≤ length slice) (ab bc : Called) (first_two : Joins J a b left ab.answer ab.after)
      (last_two : Joins J b c right bc.answer bc.after) where
    both_ways : then_call ab (λ p. join_call J p c slice) slice ≡ then_call bc (λ p. join_call J a p slice) slice
    both_ways =
        ap (λ (call : Called). then_call call (λ p. join_call J p c slice) slice)
        (called J a b left ab.answer ab.after first_two)
        ∙ join_calls_associate J valid a b c left right slice pa pb pc room_left room_right room
        ∙ sym
        (ap (λ (call : Called). then_call call (λ p. join_call J a p slice) slice)
        (called J b c right bc.answer bc.after last_two))

    -- "Joining first with second and then the third shall give the same bytes .. as joining the first with what the
    -- other two give": the same answer, with end, steps and peaks, and every byte of the slice
    pub same_both_ways : verdict_of ab.answer ≡ pass → verdict_of bc.answer ≡ pass
        → (r s : Result Day Refusal) (after then : List ℕ) → Joins J (plan_in ab) c slice r after
        → Joins J a (plan_in bc) slice s then → (r ≡ s) × (after ≡ then)
    same_both_ways p q r s after then j k =
        parts_of r s after then
        (called J (plan_in ab) c slice r after j
        ∙ sym (went_on ab (λ x. join_call J x c slice) slice p)
        ∙ both_ways
        ∙ went_on bc (λ x. join_call J a x slice) slice q ∙ sym (called J a (plan_in bc) slice s then k))

    -- "or the same 34": where the first two are 34 already, and the last two are a day, the last join is 34
    pub first_two_too_long : verdict_of ab.answer ≡ Err JoinedTooLong → verdict_of bc.answer ≡ pass
        → (s : Result Day Refusal) (then : List ℕ) → Joins J a (plan_in bc) slice s then → Is34 slice s then
    first_two_too_long p q s then k =
        is_34 slice s then
        (called J a (plan_in bc) slice s then k
        ∙ sym (went_on bc (λ x. join_call J a x slice) slice q)
        ∙ sym both_ways ∙ stopped ab (λ x. join_call J x c slice) slice JoinedTooLong p)

    -- and where the last two are 34 already, and the first two are a day
    pub last_two_too_long : verdict_of bc.answer ≡ Err JoinedTooLong → verdict_of ab.answer ≡ pass
        → (r : Result Day Refusal) (after : List ℕ) → Joins J (plan_in ab) c slice r after → Is34 slice r after
    last_two_too_long q p r after j =
        is_34 slice r after
        (called J (plan_in ab) c slice r after j
        ∙ sym (went_on ab (λ x. join_call J x c slice) slice p)
        ∙ both_ways ∙ stopped bc (λ x. join_call J a x slice) slice JoinedTooLong q)
