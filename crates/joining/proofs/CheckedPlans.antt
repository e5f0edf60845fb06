-- Two plans that pass 12 to 15, by what the checker tells of them: numbers that fit, and the joined plan.
-- Assumes nothing.
use Rattle.job.specs.declared.refusal.Refusal.{Refusal}
use Rattle.std.specs.Prelude.{Ok, Err}
use Prim.Native.Nat.{ℕ, zero, suc, ◌+◌, ◌/◌, ◌≤◌}
use mathlib.Core.Path.{◌≡◌, sym, ap, ◌∙◌}
use mathlib.Core.Bool.{Bool, ◌||◌}
use mathlib.Core.Logic.{⊎_elim}
use mathlib.Core.List.{List, ◌++◌, map}
use native.Mathlib.Omega.{arith}
use lib.ListN.{length, get_or, get_or-eq_default}
use Rattle.lists.proofs.Tabulate.{length_tabulate, each_at}
use Rattle.encoding.specs.Bytes.{overwrite}
use Rattle.job.specs.Job.{Job}
use Rattle.job.specs.Passed.{Passed}
use Rattle.job.specs.Refusal.{first}
use Rattle.job.specs.Resources.{handover}
use Rattle.job.specs.Valid.{over}
use Rattle.job.specs.Refusal.{Verdict}
use Rattle.job.specs.Refusal.{pass}
use Rattle.timeline.specs.Step.{steps_in, plan_bytes}
use Rattle.timeline.specs.Timeline.{end, largest_below}
use Rattle.timeline.specs.Accepted.{shape_rows}
use Rattle.timeline.specs.Day.{told_of, day_of, told}
use Rattle.timeline.specs.declared.Day.{Day}
use Rattle.timeline.proofs.DayLaws.{verdict_of_day}
use Rattle.timeline.proofs.Tests.{le_or_lt}
use Rattle.checker.specs.Check.{shape_day}
use Rattle.joining.specs.Join.{later_by, largest_handover, joined_steps, too_long}
use Rattle.joining.specs.Inner.{offset, both_days, WritesBoth}
use Rattle.joining.proofs.JoinedDay.{told_joined}
use Rattle.joining.proofs.JoinedShape.{whole_steps, few_of_shape, ends_of_shape}
use Rattle.joining.proofs.LaterSteps.{joined_bytes}

-- ---- the largest handover is at most 30
handover_small : (J : Job) → Passed J → (pool : ℕ) → handover J pool ≤ 30
unfolding handover
handover_small J passed pool =
    ⊎_elim
    (λ past. let none : get_or J.handovers pool 0 ≡ 0 = get_or-eq_default J.handovers 0 past in omega arith)
    (λ inside. each_at (λ x. x ≤ 30) J.handovers 0 passed.handovers pool inside)
    (le_or_lt (length J.handovers) pool)

largest_small : (n : ℕ) (f : ℕ → ℕ) → ((k : ℕ) → f k ≤ 30) → largest_below n f ≤ 30
largest_small zero f h = omega arith
largest_small (suc n) f h = let here = h n in let rest = largest_small n f h in omega arith

largest_handover_small : (J : Job) → Passed J → largest_handover J ≤ 30
largest_handover_small J passed = largest_small (length J.pools) (handover J) (handover_small J passed)

offset_small : (wait n last : ℕ) → wait ≤ 30 → last ≤ 1440 → offset wait n last ≤ 2000
offset_small wait zero last l m = omega arith
offset_small wait (suc n) last l m = omega arith

-- ---- one plan
module _ (J : Job) (bytes : List ℕ) where
  pub shape_refused : (why : Refusal) → Err why ≡ shape_day J bytes → first (shape_rows J bytes) ≡ Err why
  unfolding shape_day
  shape_refused why checked = sym (verdict_of_day _ J (steps_in J bytes) (Err why) checked)

  module _ (x : Day) (checked : Ok x ≡ shape_day J bytes) where
    pub shape_passes : first (shape_rows J bytes) ≡ pass
    unfolding shape_day
    shape_passes = sym (verdict_of_day _ J (steps_in J bytes) (Ok x) checked)

    shape_told : x ≡ told_of J (steps_in J bytes)
    unfolding shape_day
    shape_told =
        ap told (checked ∙ ap (λ (v : Verdict). day_of v J (steps_in J bytes)) shape_passes)

    pub shape_ends : Passed J → x.end ≤ 1440
    shape_ends passed =
        let same = ap (λ (d : Day). d.end) shape_told in
        let late = ends_of_shape J bytes shape_passes in
        let deadline = passed.deadline in
        omega arith

    shape_steps : x.steps ≡ length bytes / 3
    unfolding steps_in
    shape_steps =
        let count : length (steps_in J bytes) ≡ length bytes / 3 = length_tabulate _ _ in
        ap (λ (d : Day). d.steps) shape_told ∙ count

    pub shape_few : x.steps ≤ 32
    shape_few =
        let same = ap (λ (d : Day). d.steps) shape_told in
        let few = few_of_shape J bytes shape_passes in
        omega arith

-- ---- both
module _ (J : Job) (a b : List ℕ) (x y d : Day) (minutes : ℕ) (passed : Passed J)
    (first_told : Ok x ≡ shape_day J a) (second_told : Ok y ≡ shape_day J b)
    (starts : minutes ≡ offset (largest_handover J) x.steps x.end) where
  starts_after : minutes ≡ offset (largest_handover J) (length (steps_in J a)) (end (steps_in J a))
  starts_after =
      starts ∙ ap (λ (z : Day). offset (largest_handover J) z.steps z.end) (shape_told J a x first_told)

  pub minutes_small : minutes ≤ 2000
  minutes_small =
      let l = offset_small (largest_handover J) x.steps x.end (largest_handover_small J passed)
      (shape_ends J a x first_told passed) in
      omega arith

  -- the plan written is the joined one
  pub joined_written : (old new : List ℕ) → WritesBoth minutes a b old new
      → new ≡ overwrite old 0 (plan_bytes (joined_steps J a b))
  joined_written old new written =
      written J
      ∙ ap (λ (n : ℕ). overwrite old 0 (plan_bytes (steps_in J a) ++ plan_bytes (map (later_by n) (steps_in J b))))
      starts_after
      ∙ ap (overwrite old 0) (sym (joined_bytes (largest_handover J) (steps_in J a) (steps_in J b)))

  module _ (told_both : d ≡ both_days x y minutes) where
    -- what is told is told of the joined plan
    pub joined_told : d ≡ told_of J (joined_steps J a b)
    joined_told =
        told_both
        ∙ ap (λ (z : Day). both_days z y minutes) (shape_told J a x first_told)
        ∙ ap (λ (z : Day). both_days (told_of J (steps_in J a)) z minutes) (shape_told J b y second_told)
        ∙ ap (both_days (told_of J (steps_in J a)) (told_of J (steps_in J b))) starts_after
        ∙ told_joined J passed.few_pools (steps_in J a) (steps_in J b)

    pub long_told : (t r : Bool) → t ≡ (over 32 d.steps || over J.deadline d.end) → t ≡ r
        → too_long J (joined_steps J a b) ≡ r
    long_told t r test is =
        sym (ap (λ (z : Day). over 32 z.steps || over J.deadline z.end) joined_told) ∙ sym test ∙ is

    -- a joined plan that is not too long has room in a slice of 96 bytes
    pub room_for_both : (d.steps ≤ 32) → length a + length b ≤ 96
    room_for_both few =
        let steps = ap (λ (z : Day). z.steps) told_both in
        let n = shape_steps J a x first_told in
        let m = shape_steps J b y second_told in
        let p = whole_steps J a (shape_passes J a x first_told) in
        let q = whole_steps J b (shape_passes J b y second_told) in
        omega arith
