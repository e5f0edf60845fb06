-- What follows from the planner's promise: the plan handed out is a shortest one, 22 means that there is none, and
-- where there is one a plan is handed out.
-- Assumes nothing.
use Rattle.timeline.specs.Day.{told}
use Rattle.std.specs.Prelude.{Result, Ok, Err}
use Prim.Native.Nat.{ℕ, ◌≤◌}
use mathlib.Core.Path.{◌≡◌, refl, sym, ap, ◌∙◌, subst}
use mathlib.Core.Bool.{Bool, true, false, ◌||◌}
use mathlib.Core.List.{List, [], ◌∷◌}
use native.Mathlib.Omega.{arith}
use lib.Dec.{eqb}
use borrow.Author.Tests.{eq-eqb}
use Rattle.lists.proofs.Bools.{or_left, or_right}
use Rattle.job.specs.declared.refusal.Refusal.{Refusal}
use Rattle.job.specs.declared.refusal.Refusal.TheVariants.{NoPlan}
use Rattle.job.specs.Refusal.{verdict_of, Verdict}
use Rattle.job.specs.Refusal.{pass}
use Rattle.job.specs.Job.{Job}
use Rattle.job.specs.Refusal.{Row, ◌when◌, number, first}
use Rattle.job.specs.Valid.{job_rows, limit_rows, action_rows}
use Rattle.job.specs.Passed.{Passed}
use Rattle.job.proofs.Passed.{passed, within_limits}
use Rattle.job.proofs.Table.{pass_of_append}
use Rattle.timeline.specs.Step.{Step}
use Rattle.timeline.specs.declared.Day.{Day}
use Rattle.timeline.specs.Accepted.{Accepted}
use Rattle.timeline.proofs.DayLaws.{refused_not_passed}
use Rattle.timeline.proofs.Tests.{not_both}
use Rattle.timeline.proofs.PlanBytes.{few_steps_of_accepted}
use Rattle.makespan.specs.Makespan.{Makespan, ends_at, no_plan, Counts, LeastEnd, makespan, makespan_from}
use Rattle.makespan.proofs.LeastEnds.{BegunSteps, least_end_of_makespan, none_accepted_when_no_plan}
use Rattle.makespan.proofs.LeastEnds.{every_plan_counts, nothing_begun}
use Rattle.planner.specs.Plan.{plan_refusals, HandsOut, PlansFor, PlansBy, Plans}

-- an answer that tells of a plan refuses nothing, and a refusal is its own
told_not_refused : (answer : Result Day Refusal) (told : Day) (why : Refusal) → answer ≡ Ok told → verdict_of answer ≡ Err why
    → ⊥
told_not_refused answer day why same h = let z = rw same at h in cc

pub refusals_same : (answer : Result Day Refusal) (w v : Refusal) → answer ≡ Err w → verdict_of answer ≡ Err v → w ≡ v
refusals_same answer w v told h = cc

-- ---- the tests before the search never tell that there is no plan
-- some row of the table has the number
abbrev pub has_number : ℕ → List Row → Bool
has_number n [] = false
has_number n (why when test ∷ rows) = eqb (number why) n || has_number n rows

-- a refusal whose number no row has is never the first
pub never_first : (why : Refusal) (rows : List Row) → has_number (number why) rows ≡ false → first rows ≡ Err why → ⊥
unfolding first
never_first why [] others h = let z : ◌≡◌ {A = ℕ} 0 1 = cc h in omega arith
never_first why (w when true ∷ rows) others h =
    let same : w ≡ why = cc h in
    not_both (eq-eqb (number w) (number why) (ap number same)) (or_left (eqb (number w) (number why)) _ others)
never_first why (w when false ∷ rows) others h =
    never_first why rows (or_right (eqb (number w) (number why)) _ others) h

tests_before_22 : (J : Job) (slice : List ℕ) → has_number 22 (plan_refusals J slice) ≡ false
unfolding job_rows limit_rows action_rows
tests_before_22 J slice = refl

-- "For jobs that still pass, the shortest day is what it was": of every job within its limits, whether or not 26 holds
-- of it, a makespan that is a minute is the least end of its accepted plans
pub shortest_day_without_26 : (J : Job) → first (limit_rows J) ≡ pass → (e : ℕ) → makespan J J.goal ≡ ends_at e
    → LeastEnd J J.goal 0 [] e
shortest_day_without_26 J limits e ends =
    least_end_of_makespan J J.goal 0 [] (within_limits J limits) (nothing_begun J) e ends

-- ---- what is handed out for a goal, with the begun steps K and the others from a minute on
module _ (J : Job) (goal minute : ℕ) (K : List Step) (slice : List ℕ) (answer : Result Day Refusal) (after : List ℕ) where
  -- the end told is the least one of all accepted plans that count; the slice has such a plan, of at most 32 steps
  pub record Shortest : Type 0 where
    pub least : LeastEnd J goal minute K (told answer).end
    pub few : (told answer).steps ≤ 32
    pub hands_out : HandsOut J goal minute K slice (told answer).end answer after

  pub shortest_handed_out : (e : ℕ) → LeastEnd J goal minute K e → HandsOut J goal minute K slice e answer after
      → Shortest
  shortest_handed_out e least p =
      let ends : (told answer).end ≡ e = ap (λ (d : Result Day Refusal). (told d).end) p.answers ∙ p.end in
      let count = ap (λ (d : Result Day Refusal). (told d).steps) p.answers in
      let most = few_steps_of_accepted J goal p.bytes p.accepted in
      record {
        least = subst (LeastEnd J goal minute K) (sym ends) least;
        few = omega arith;
        hands_out = subst (λ (k : ℕ). HandsOut J goal minute K slice k answer after) (sym ends) p;
      }

  module _ (within : Passed J) (none : Refusal) where
    pub shortest_by_makespan : BegunSteps J minute K → verdict_of answer ≡ pass → (m : Makespan)
        → makespan_from J goal minute K ≡ m → PlansFor m none J goal minute K slice answer after → Shortest
    shortest_by_makespan kept passes (ends_at e) q p =
        shortest_handed_out e (least_end_of_makespan J goal minute K within kept e q) p
    shortest_by_makespan kept passes no_plan q p = absurd (refused_not_passed answer none p.answers passes)

    pub none_by_makespan : (m : Makespan) → makespan_from J goal minute K ≡ m
        → PlansFor m none J goal minute K slice answer after → verdict_of answer ≡ Err none
        → (bytes : List ℕ) → Accepted J goal bytes → Counts J minute K bytes → ⊥
    none_by_makespan (ends_at e) q p refused bytes accepted counts =
        told_not_refused answer _ none p.answers refused
    none_by_makespan no_plan q p refused bytes accepted counts =
        none_accepted_when_no_plan J goal minute K within q bytes accepted counts

    pub shortest_when_accepted : BegunSteps J minute K → (m : Makespan) → makespan_from J goal minute K ≡ m
        → PlansFor m none J goal minute K slice answer after → (bytes : List ℕ) → Accepted J goal bytes
        → Counts J minute K bytes → (verdict_of answer ≡ pass) × Shortest
    shortest_when_accepted kept (ends_at e) q p bytes accepted counts = (
      ap (λ (d : Result Day Refusal). (verdict_of d)) p.answers,
      shortest_handed_out e (least_end_of_makespan J goal minute K within kept e q) p,
    )
    shortest_when_accepted kept no_plan q p bytes accepted counts =
        absurd (none_accepted_when_no_plan J goal minute K within q bytes accepted counts)

-- ---- the planner's answer
module _ (J : Job) (slice : List ℕ) (answer : Result Day Refusal) (after : List ℕ) where
  shortest_by_verdict : verdict_of answer ≡ pass → (v : Verdict) → first (plan_refusals J slice) ≡ v
      → PlansBy v J slice answer after → Shortest J J.goal 0 [] slice answer after
  shortest_by_verdict pass (Ok _) q p =
      shortest_by_makespan J J.goal 0 [] slice answer after (passed J (pass_of_append (job_rows J) _ q).0) NoPlan
      (nothing_begun J) pass (makespan J J.goal) refl p
  shortest_by_verdict pass (Err why) q p = absurd (refused_not_passed answer why p.answers pass)

  -- a plan that is handed out is a shortest one
  pub plan_is_shortest : Plans J slice answer after → verdict_of answer ≡ pass
      → Shortest J J.goal 0 [] slice answer after
  plan_is_shortest h pass = shortest_by_verdict pass (first (plan_refusals J slice)) refl h

  none_by_verdict : (v : Verdict) → first (plan_refusals J slice) ≡ v → PlansBy v J slice answer after
      → verdict_of answer ≡ Err NoPlan → (bytes : List ℕ) → Accepted J J.goal bytes → ⊥
  none_by_verdict (Ok _) q p refused bytes accepted =
      none_by_makespan J J.goal 0 [] slice answer after (passed J (pass_of_append (job_rows J) _ q).0) NoPlan
      (makespan J J.goal) refl p refused bytes accepted (every_plan_counts J bytes)
  none_by_verdict (Err why) q p refused bytes accepted =
      never_first NoPlan (plan_refusals J slice) (tests_before_22 J slice)
      (q ∙ ap Err (refusals_same answer why NoPlan p.answers refused))

  -- 22 means that no plan is accepted
  pub no_plan_when_refused : Plans J slice answer after → verdict_of answer ≡ Err NoPlan
      → (bytes : List ℕ) → Accepted J J.goal bytes → ⊥
  no_plan_when_refused h = none_by_verdict (first (plan_refusals J slice)) refl h

  -- where no refusal of the job holds, nor 21, and some plan is accepted, a shortest plan is handed out
  pub plan_when_accepted : Plans J slice answer after → first (plan_refusals J slice) ≡ pass
      → (bytes : List ℕ) → Accepted J J.goal bytes
      → (verdict_of answer ≡ pass) × Shortest J J.goal 0 [] slice answer after
  plan_when_accepted h pass bytes accepted =
      shortest_when_accepted J J.goal 0 [] slice answer after (passed J (pass_of_append (job_rows J) _ pass).0)
      NoPlan (nothing_begun J) (makespan J J.goal) refl
      (subst (λ (v : Verdict). PlansBy v J slice answer after) pass h) bytes accepted (every_plan_counts J bytes)
