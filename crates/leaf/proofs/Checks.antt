-- The checker over the bytes of the steps: what its answer says of the plan, and the answer that is made of it.
-- Assumes nothing.
use Rattle.std.specs.Prelude.{Option, Some, None, Result, Ok, Err}
use Prim.Native.Nat.{ℕ, ◌+◌, ◌*◌, ◌≤◌, ◌<◌}
use mathlib.Core.Path.{◌≡◌, refl, sym, ap, subst, ◌∙◌}
use mathlib.Core.Bool.{true, false, cond}
use mathlib.Core.List.{List}
use native.Mathlib.Omega.{arith}
use lib.Dec.{ltb}
use lib.ListN.{length, take, drop, replicate}
use lib.Seq.{take_at}
use borrow.Author.Tests.{lt-ltb, le-ltb, ltb-false}
use Rattle.lists.proofs.Tabulate.{length_tabulate}
use Rattle.encoding.specs.Bytes.{overwrite}
use Rattle.facts.specs.FactSet.{foreign}
use Rattle.job.specs.declared.refusal.Refusal.{Refusal}
use Rattle.job.specs.declared.refusal.Refusal.TheVariants.{ForeignAskedFact}
use Rattle.job.specs.Refusal.{Verdict}
use Rattle.job.specs.Refusal.{pass}
use Rattle.job.specs.Job.{Job}
use Rattle.job.specs.Refusal.{first}
use Rattle.job.specs.Valid.{limit_rows}
use Rattle.std.specs.Result.{result_ok}
use Rattle.job.proofs.Table.{some_is_answered, none_is_refused, first_next, first_pass, first_append_pass, pass_of_append}
use Rattle.timeline.specs.Step.{Step, steps_in, plan_bytes}
use Rattle.timeline.specs.Timeline.{end, peaks}
use Rattle.timeline.specs.Accepted.{Accepted}
use Rattle.timeline.proofs.PlanBytes.{length_plan_bytes}
use Rattle.timeline.specs.declared.Day.{Day}
use Rattle.timeline.specs.Day.{told_of, day_of}
use Rattle.checker.specs.Check.{check_within}
use Rattle.tables.specs.declared.Steps.{Steps}
use Rattle.leaf.specs.declared.Answer.{Answer}
use Rattle.leaf.specs.Order.{placed, in_order, WritesPlan}
use Rattle.leaf.specs.Answer.{answer_of, plan_of, Answers, bytes_in, Found}

-- ---- the bytes of the steps stand in front
pub length_bytes_in_order : (J : Job) (steps : Steps) → length (plan_bytes (in_order J steps)) ≡ 3 * steps.count
length_bytes_in_order J steps =
    let a = length_plan_bytes (in_order J steps) in
    let b = length_tabulate steps.count (placed J steps) in
    omega arith

pub plan_in_front : (J : Job) (steps : Steps) (n : ℕ) → n ≡ 3 * steps.count
    → take n (plan_of J steps) ≡ plan_bytes (in_order J steps)
unfolding overwrite
plan_in_front J steps n e =
    let l = length_bytes_in_order J steps in
    take_at (plan_bytes (in_order J steps)) (drop (0 + length (plan_bytes (in_order J steps))) (replicate 96 0)) n
    (omega arith)

pub front_whole : (J : Job) (steps : Steps) (o : List ℕ) → WritesPlan steps (replicate 96 0) o
    → steps.count * 3 ≡ length (take (steps.count * 3) o)
front_whole J steps o w =
    let l = length_bytes_in_order J steps in
    let e = ap (λ (p : List ℕ). length (take (steps.count * 3) p)) (w J) in
    let f = ap length (plan_in_front J steps (steps.count * 3) (omega arith)) in
    omega arith

-- ---- what the checker answers
day_passed : (v : Verdict) (J : Job) (P : List Step) (day : Day) → day_of v J P ≡ Ok day
    → (v ≡ pass) × (end P ≡ day.end) × (peaks J P ≡ day.peaks)
day_passed (Ok _) J P day h = let e : told_of J P ≡ day = cc in (refl, ap (λ (d : Day). d.end) e, ap (λ (d : Day). d.peaks) e)
day_passed (Err why) J P day h = cc

pub passed_accepted : (J : Job) (goal : ℕ) (bytes : List ℕ) (day : Day) → check_within J goal bytes ≡ Ok day
    → Accepted J goal bytes × (end (steps_in J bytes) ≡ day.end) × (peaks J (steps_in J bytes) ≡ day.peaks)
unfolding check_within
passed_accepted J goal bytes day h =
    let r = day_passed _ J (steps_in J bytes) day h in
    ((first_pass _ _ _ (pass_of_append (limit_rows J) _ r.0).1).1, r.1, r.2)

pub accepted_passes : (J : Job) (goal : ℕ) (bytes : List ℕ) → first (limit_rows J) ≡ pass → foreign J.facts goal ≡ false
    → Accepted J goal bytes → check_within J goal bytes ≡ Ok (told_of J (steps_in J bytes))
unfolding check_within
accepted_passes J goal bytes job own accepted =
    ap (λ (v : Verdict). day_of v J (steps_in J bytes))
    (first_append_pass (limit_rows J) _ job ∙ first_next ForeignAskedFact _ _ own ∙ accepted)

-- ---- the answer that is made of it
module _ (J : Job) (goal T : ℕ) (steps : Steps) where
  abbrev checks : Result Day Refusal
  checks = check_within J goal (plan_bytes (in_order J steps))

  same_checked : (o : List ℕ) (day : Result Day Refusal) → WritesPlan steps (replicate 96 0) o
      → day ≡ check_within J goal (take (steps.count * 3) o) → checks ≡ day
  same_checked o day w e =
      sym (e ∙ ap (λ (bytes : List ℕ). check_within J goal (take (steps.count * 3) bytes)) (w J)
      ∙ ap (check_within J goal) (plan_in_front J steps (steps.count * 3) (omega arith)))

  -- the steps as a plan of that day
  abbrev plan_of_day : Day → List ℕ → Answer
  plan_of_day d plan = record { end = d.end; count = steps.count; peaks = d.peaks; plan = plan }

  plan_answered : (d : Day) → d.end ≤ T → answer_of (Ok d) T steps.count (plan_of J steps) ≡ Some (plan_of_day d (plan_of J steps))
  plan_answered d l = rw (le-ltb T d.end l)

  nothing_answered : (d : Day) → T < d.end → answer_of (Ok d) T steps.count (plan_of J steps) ≡ None
  nothing_answered d l = rw (lt-ltb T d.end l)

  -- o is the bytes that were written, and day what the checker says of them
  module _ (o : List ℕ) (day : Result Day Refusal) (w : WritesPlan steps (replicate 96 0) o)
      (e : day ≡ check_within J goal (take (steps.count * 3) o)) where
    pub answers_refused : result_ok day ≡ None → Answers J goal T steps None
    answers_refused h = rw (same_checked o day w e ∙ (none_is_refused day h).1)

    pub answers_late : (d : Day) → result_ok day ≡ Some d → T < d.end → Answers J goal T steps None
    answers_late d h l = rw (same_checked o day w e ∙ some_is_answered day d h) (sym (nothing_answered d l))

    pub answers_plan : (d : Day) → result_ok day ≡ Some d → d.end ≤ T → Answers J goal T steps (Some (plan_of_day d o))
    answers_plan d h l = rw (same_checked o day w e ∙ some_is_answered day d h) (rw (w J) (sym (plan_answered d l)))

  -- a plan that is answered is that of a day that ends in time
  answered : (r : Result Day Refusal) (a : Answer) → answer_of r T steps.count (plan_of J steps) ≡ Some a
      → (d : Day) × (r ≡ Ok d) × (d.end ≤ T) × (a ≡ plan_of_day d (plan_of J steps))
  answered (Err why) a h = cc
  answered (Ok d) a h =
      elim (ltb T d.end) as (λ b. ltb T d.end ≡ b → cond b None (Some (plan_of_day d (plan_of J steps))) ≡ Some a → (x : Day) × (◌≡◌ {A = Result Day Refusal} (Ok d) (Ok x)) × (x.end ≤ T) × (a ≡ plan_of_day x (plan_of J steps))) [
        | true ↦ λ l e. cc
        | false ↦ λ l e. (d, refl, ltb-false T d.end l, cc)
      ] refl h

  -- a plan that is found is accepted
  pub answer_found : steps.count ≤ 32 → (r : Option Answer) → Answers J goal T steps r → (a : Answer) → r ≡ Some a
      → Found J goal T a
  answer_found few r told a h =
      let by = answered checks a (sym told ∙ h) in
      let front = plan_in_front J steps (3 * steps.count) refl in
      let same = passed_accepted J goal (plan_bytes (in_order J steps)) by.0 by.1 in
      subst (λ (x : Answer). Found J goal T x) (sym by.3)
      (record {
        few = few;
        whole = ap length front ∙ length_bytes_in_order J steps;
        accepted = subst (λ (bytes : List ℕ). Accepted J goal bytes) (sym front) same.0;
        end = ap (λ (bytes : List ℕ). end (steps_in J bytes)) front ∙ same.1;
        peaks = ap (λ (bytes : List ℕ). peaks J (steps_in J bytes)) front ∙ same.2;
        in_time = by.2;
      })

  -- its bytes are those of the steps
  pub answer_bytes : (r : Option Answer) → Answers J goal T steps r → (a : Answer) → r ≡ Some a
      → bytes_in a ≡ plan_bytes (in_order J steps)
  answer_bytes r told a h =
      let by = answered checks a (sym told ∙ h) in
      ap bytes_in by.3 ∙ plan_in_front J steps (3 * steps.count) refl

  -- where nothing is found, the steps as they stand are no accepted plan that ends by T
  pub answer_not_found : (r : Option Answer) → Answers J goal T steps r → r ≡ None → (day : Day) → checks ≡ Ok day
      → day.end ≤ T → ⊥
  answer_not_found r told h day c l =
      let found : r ≡ Some (plan_of_day day (plan_of J steps))
      = told ∙ ap (λ (d : Result Day Refusal). answer_of d T steps.count (plan_of J steps)) c ∙ plan_answered day l in
      cc
