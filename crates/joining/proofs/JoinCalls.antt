-- Calls that join associate: the same bytes and answer, or the same 34. An empty plan on either side changes nothing.
-- Assumes nothing.
use Rattle.job.specs.declared.refusal.Refusal.{Refusal}
use Rattle.std.specs.Prelude.{Result, Ok, Err}
use Prim.Native.Nat.{ℕ, ◌+◌, ◌*◌, ◌≤◌}
use mathlib.Core.Path.{◌≡◌, refl, sym, ap, ap₂, ◌∙◌}
use mathlib.Core.Bool.{Bool, true, false}
use mathlib.Core.List.{List, [], ◌∷◌}
use lib.ListN.{length, take, drop}
use lib.Seq.{take_at}
use borrow.Author.Tests.{le-ltb}
use Rattle.lists.specs.Lists.{tabulate, any}
use Rattle.encoding.specs.Bytes.{overwrite}
use Rattle.encoding.proofs.Parts.{Bytes}
use Rattle.job.specs.Job.{Job}
use Rattle.job.specs.Refusal.{◌when◌, first}
use Rattle.job.specs.Valid.{job_rows}
use Rattle.job.specs.declared.refusal.Refusal.TheVariants.{JoinedTooLong}
use Rattle.job.specs.Refusal.{Verdict}
use Rattle.job.specs.Refusal.{pass}
use Rattle.job.proofs.Table.{first_next, first_append_pass}
use Rattle.job.proofs.Passed.{passed}
use Rattle.timeline.specs.Step.{Step, steps_in, plan_bytes}
use Rattle.timeline.specs.Accepted.{shape_rows}
use Rattle.timeline.specs.Day.{told_of, day_of}
use Rattle.timeline.specs.declared.Day.{Day}
use Rattle.timeline.proofs.PlanBytes.{length_plan_bytes}
use Rattle.joining.specs.Join.{largest_handover, join_steps, joined_steps, too_long}
use Rattle.joining.specs.Answer.{join_rows, join_answer, left_by, left_by_join, Joins}
use Rattle.joining.specs.Parts.{Joined, day, day_too_long, unless_too_long, join, and_then, Called, join_call, then_call}
use Rattle.joining.proofs.Associates.{days_associate}
use Rattle.joining.proofs.JoinedShape.{joined_passes_shape, not_too_long, written_again}

-- what the call promises, as an answer with its slice
pub called : (J : Job) (a b slice : List ℕ) (r : Result Day Refusal) (after : List ℕ) → Joins J a b slice r after
    → record { answer = r; after = after } ≡ join_call J a b slice
called J a b slice r after h =
    ap₂ {C = Called} (λ (x : Result Day Refusal) (s : List ℕ). record { answer = x; after = s }) h.answers h.leaves

-- the plan that a call has put at the front of its slice
put_by_call : (slice : List ℕ) (P : List Step)
    → take (3 * length P) (overwrite slice 0 (plan_bytes P)) ≡ plan_bytes P
unfolding overwrite
put_by_call slice P =
    take_at (plan_bytes P) (drop (0 + length (plan_bytes P)) slice) (3 * length P) (length_plan_bytes P)

-- a day that a join gives is the joined steps, not too long
pub day_of_join : (J : Job) (h : ℕ) (A B P : List Step) → join J h A B ≡ day P
    → (P ≡ join_steps h A B) × (too_long J (join_steps h A B) ≡ false)
unfolding join
day_of_join J h A B P e = go (too_long J (join_steps h A B)) refl e
  where
    steps : Joined → List Step
    steps (day R) = R
    steps day_too_long = []

    go : (b : Bool) → too_long J (join_steps h A B) ≡ b
        → elim b [ true ↦ day_too_long | false ↦ day (join_steps h A B) ] ≡ day P
        → (P ≡ join_steps h A B) × (too_long J (join_steps h A B) ≡ false)
    go true q e = (cc, cc)
    go false q e = (sym (ap steps e), q)

pub nothing_behind : (wait : ℕ) (A : List Step) → join_steps wait A [] ≡ A
unfolding join_steps
nothing_behind wait [] = refl
nothing_behind wait (x ∷ A) = refl

-- what a call answers and leaves, by the day joined
abbrev pub answer_by : Job → Joined → List ℕ → Called
answer_by J (day P) slice = record { answer = Ok (told_of J P); after = overwrite slice 0 (plan_bytes P) }
answer_by J day_too_long slice = record { answer = Err JoinedTooLong; after = slice }

module _ (J : Job) (valid : first (job_rows J) ≡ pass) where
  -- where all tests before 34 pass, it decides
  pub rows_pass : (a b slice : List ℕ) → first (shape_rows J a) ≡ pass → first (shape_rows J b) ≡ pass
      → 96 ≤ length slice
      → first (join_rows J a b slice) ≡ first (JoinedTooLong when too_long J (joined_steps J a b) ∷ [])
  rows_pass a b slice pa pb l =
      first_append_pass (job_rows J) _ valid
      ∙ first_append_pass (shape_rows J a) _ pa
      ∙ first_append_pass (shape_rows J b) _ pb
      ∙ first_next _ _ _ (le-ltb (length slice) 96 l)

  -- for plans that pass 12 to 15 and a slice of 96 bytes or more a call answers by the join of the steps
  pub call_joins : (a b slice : List ℕ) → first (shape_rows J a) ≡ pass → first (shape_rows J b) ≡ pass
      → 96 ≤ length slice
      → join_call J a b slice ≡ answer_by J (join J (largest_handover J) (steps_in J a) (steps_in J b)) slice
  unfolding join_answer left_by_join join first
  call_joins a b slice pa pb l =
      ap (λ (v : Verdict). called_by v (joined_steps J a b)) (rows_pass a b slice pa pb l)
      ∙ by_test (too_long J (joined_steps J a b)) (joined_steps J a b)
    where
      called_by : Verdict → List Step → Called
      called_by v P = record { answer = day_of v J P; after = left_by v P slice }

      by_test : (t : Bool) (P : List Step) → called_by (first (JoinedTooLong when t ∷ [])) P
          ≡ answer_by J (elim t [ true ↦ day_too_long | false ↦ day P ]) slice
      by_test true P = refl
      by_test false P = refl

  -- a call with the plan of another call, on either side of it
  then_call_lem : (a b room slice : List ℕ) → first (shape_rows J a) ≡ pass → first (shape_rows J b) ≡ pass
      → 96 ≤ length room → (next : List ℕ → Called) (more : List Step → Joined)
      → ((p : List ℕ) → first (shape_rows J p) ≡ pass → next p ≡ answer_by J (more (steps_in J p)) slice)
      → then_call (join_call J a b room) next slice
      ≡ answer_by J (and_then (join J (largest_handover J) (steps_in J a) (steps_in J b)) more) slice
  then_call_lem a b room slice pa pb l next more calls =
      ap (λ (call : Called). then_call call next slice) (call_joins a b room pa pb l)
      ∙ go (join J (largest_handover J) (steps_in J a) (steps_in J b)) refl
    where
      go : (d : Joined) → join J (largest_handover J) (steps_in J a) (steps_in J b) ≡ d
          → then_call (answer_by J d room) next slice ≡ answer_by J (and_then d more) slice
      go day_too_long e = refl
      go (day P) e =
          let found = day_of_join J (largest_handover J) (steps_in J a) (steps_in J b) P e in
          let shape = joined_passes_shape J (largest_handover J) a b (passed J valid) pa pb found.1 in
          let pass : first (shape_rows J (plan_bytes P)) ≡ pass
          = ap (λ (R : List Step). first (shape_rows J (plan_bytes R))) found.0 ∙ shape.0 in
          let same : steps_in J (plan_bytes P) ≡ P
          = ap (λ (R : List Step). steps_in J (plan_bytes R)) found.0 ∙ shape.1 ∙ sym found.0 in
          ap next (put_by_call room P)
          ∙ calls (plan_bytes P) pass
          ∙ ap (λ (R : List Step). answer_by J (more R) slice) same

  -- "Joining first with second and then the third shall give the same bytes, or the same 34, as joining the first with
  -- what the other two give": the same answer, and the same bytes in the slice of the last call
  pub join_calls_associate : (a b c left right slice : List ℕ) → first (shape_rows J a) ≡ pass
      → first (shape_rows J b) ≡ pass → first (shape_rows J c) ≡ pass
      → 96 ≤ length left → 96 ≤ length right → 96 ≤ length slice
      → then_call (join_call J a b left) (λ p. join_call J p c slice) slice
      ≡ then_call (join_call J b c right) (λ p. join_call J a p slice) slice
  join_calls_associate a b c left right slice pa pb pc l r s =
      then_call_lem a b left slice pa pb l (λ p. join_call J p c slice) (λ P. join J (largest_handover J) P (steps_in J c))
      (λ p pass. call_joins p c slice pass pc s)
      ∙ ap (λ (d : Joined). answer_by J d slice)
      (days_associate (largest_handover J) J (steps_in J a) (steps_in J b) (steps_in J c))
      ∙ sym
      (then_call_lem b c right slice pb pc r (λ p. join_call J a p slice) (λ P. join J (largest_handover J) (steps_in J a) P)
      (λ p pass. call_joins a p slice pa pass s))

  -- ---- an empty plan
  -- the plan itself, told and written
  abbrev pub hands_out : List ℕ → List ℕ → Called
  hands_out a slice = record { answer = Ok (told_of J (steps_in J a)); after = overwrite slice 0 a }

  empty_passes : first (shape_rows J []) ≡ pass
  unfolding shape_rows first steps_in any tabulate
  empty_passes = refl

  no_steps : steps_in J [] ≡ []
  unfolding steps_in tabulate
  no_steps = refl

  empty_first : (A B : List Step) → A ≡ [] → join J (largest_handover J) A B ≡ unless_too_long J B
  unfolding join join_steps
  empty_first A B e = ap (λ (R : List Step). unless_too_long J (join_steps (largest_handover J) R B)) e

  empty_second : (A B : List Step) → B ≡ [] → join J (largest_handover J) A B ≡ unless_too_long J A
  unfolding join
  empty_second A B e =
      ap (λ (R : List Step). unless_too_long J (join_steps (largest_handover J) A R)) e
      ∙ ap (unless_too_long J) (nothing_behind (largest_handover J) A)

  alone : (a slice : List ℕ) → first (shape_rows J a) ≡ pass → Bytes a
      → answer_by J (unless_too_long J (steps_in J a)) slice ≡ hands_out a slice
  alone a slice pa small =
      ap {B = Called}
      (λ (b : Bool). answer_by J (elim b [ true ↦ day_too_long | false ↦ day (steps_in J a) ]) slice)
      (not_too_long J a pa)
      ∙ ap {B = Called} answers (written_again J a pa small)
    where
      answers : List ℕ → Called
      answers bytes = record { answer = Ok (told_of J (steps_in J a)); after = overwrite slice 0 bytes }

  -- "The empty plan on either side changes nothing."
  pub empty_changes_nothing : (a slice : List ℕ) → first (shape_rows J a) ≡ pass → Bytes a → 96 ≤ length slice
      → (join_call J [] a slice ≡ hands_out a slice) × (join_call J a [] slice ≡ hands_out a slice)
  empty_changes_nothing a slice pa small l = (
    call_joins [] a slice empty_passes pa l
        ∙ ap (λ (d : Joined). answer_by J d slice) (empty_first (steps_in J []) (steps_in J a) no_steps)
        ∙ alone a slice pa small,
    call_joins a [] slice pa empty_passes l
        ∙ ap (λ (d : Joined). answer_by J d slice) (empty_second (steps_in J a) (steps_in J []) no_steps)
        ∙ alone a slice pa small,
  )
