-- What follows from the replanner's promise: the plan handed out is a shortest one with the kept steps, 35 means that
-- there is none, and where there is one a plan is handed out.
-- Assumes nothing.
use Rattle.timeline.specs.Day.{told}
use Rattle.job.specs.declared.refusal.Refusal.{Refusal}
use Rattle.std.specs.Prelude.{Result, Ok, Err}
use Prim.Native.Nat.{ℕ, ◌≤◌}
use mathlib.Core.Path.{◌≡◌, refl, sym, ap, ◌∙◌, subst}
use mathlib.Core.Bool.{Bool, true, false}
use mathlib.Core.List.{List, []}
use Rattle.job.specs.declared.refusal.Refusal.TheVariants.{NoPlanWithKept}
use Rattle.job.specs.Refusal.{verdict_of, Verdict}
use Rattle.job.specs.Refusal.{pass}
use Rattle.job.specs.Job.{Job}
use Rattle.job.specs.Refusal.{first, returned}
use Rattle.job.specs.Valid.{job_rows, limit_rows, action_rows}
use Rattle.job.specs.Passed.{Passed}
use Rattle.job.proofs.Passed.{passed}
use Rattle.job.proofs.Table.{first_pass, pass_of_append}
use Rattle.timeline.specs.Step.{Step, steps_in, plan_bytes}
use Rattle.timeline.specs.Timeline.{end}
use Rattle.timeline.specs.Accepted.{Accepted, run_rows}
use Rattle.timeline.specs.declared.Day.{Day}
use Rattle.timeline.specs.Day.{told_of}
use Rattle.timeline.proofs.DayLaws.{refused_not_passed}
use Rattle.timeline.proofs.RunRows.{run_rows_lem}
use Rattle.makespan.specs.Makespan.{Makespan, passes, Counts, makespan, makespan_from}
use Rattle.makespan.proofs.LeastEnds.{BegunSteps, makespan_of_least_end, every_plan_counts}
use Rattle.planner.specs.Plan.{HandsOut, PlansFor}
use Rattle.planner.proofs.Shortest.{Shortest, shortest_by_makespan, none_by_makespan, shortest_when_accepted}
use Rattle.planner.proofs.Shortest.{refusals_same, has_number, never_first}
use Rattle.replanner.specs.Replan.{replan_rows, kept_steps, HandsOutKept, ReplansWith, ReplansBy, Replans}
use Rattle.replanner.proofs.Begun.{begun_of_accepted, accepted_alone, counts_alone, least_alone}

-- no row of the tests before the search has the number 35
tests_before_35 : (J : Job) (current : List ℕ) (goal : ℕ) (slice : List ℕ)
    → has_number 35 (replan_rows J current goal slice) ≡ false
unfolding job_rows limit_rows action_rows run_rows
tests_before_35 J current goal slice = refl

module _ (J : Job) (current : List ℕ) (minute goal : ℕ) (slice : List ℕ) (answer : Result Day Refusal) (after : List ℕ) where
  abbrev K : List Step
  K = kept_steps J minute current

  -- a plan with the kept steps is handed out, one with the least end, or that there is none
  abbrev PlansWithKept : Type 0
  PlansWithKept = PlansFor (makespan_from J goal minute K) NoPlanWithKept J goal minute K slice answer after

  module _ (rows : first (replan_rows J current goal slice) ≡ pass) where
    within : Passed J
    within = passed J (pass_of_append (job_rows J) _ rows).0

    begun_steps : BegunSteps J minute K
    begun_steps =
        let behind_job = (pass_of_append (job_rows J) _ rows).1 in
        let behind_goal = (first_pass _ _ _ behind_job).1 in
        begun_of_accepted J 0 minute current
        (run_rows_lem J current ∙ (pass_of_append (run_rows J current) _ behind_goal).0)

    -- kept steps that pass alone are a plan with the least end
    kept_hands_out : passes J goal K ≡ true → HandsOutKept J K slice answer after
        → HandsOut J goal minute K slice (end K) answer after
    kept_hands_out alone p =
        let both = accepted_alone J goal minute K within begun_steps alone in
        record {
          bytes = plan_bytes K;
          accepted = both.0;
          counts = counts_alone J goal minute K within begun_steps alone;
          end = ap end both.1;
          answers = p.answers ∙ ap (λ (P : List Step). Ok (told_of J P)) (sym both.1);
          replies = p.replies ∙ ap (λ (P : List Step). returned (told_of J P)) (sym both.1);
          leaves = p.leaves;
        }

    -- "If the kept steps meet the goal, none are added" says nothing but that a shortest plan is handed out
    plans_by_pass : (b : Bool) → passes J goal K ≡ b → ReplansWith b J goal minute K slice answer after → PlansWithKept
    plans_by_pass true alone p =
        subst (λ (m : Makespan). PlansFor m NoPlanWithKept J goal minute K slice answer after)
        (sym
        (makespan_of_least_end J goal minute K within begun_steps (end K)
        (least_alone J goal minute K within begun_steps alone)))
        (kept_hands_out alone p)
    plans_by_pass false e p = p

    plans_with_kept : ReplansBy pass J goal minute K slice answer after → PlansWithKept
    plans_with_kept p = plans_by_pass (passes J goal K) refl p

  -- the promise, where no refusal of the job holds, nor 24, 12 to 19 or 21
  plans_when_tests_pass : Replans J current minute goal slice answer after
      → first (replan_rows J current goal slice) ≡ pass → PlansWithKept
  plans_when_tests_pass h rows =
      plans_with_kept rows (subst (λ (v : Verdict). ReplansBy v J goal minute K slice answer after) rows h)

  shortest_by_verdict : verdict_of answer ≡ pass → (v : Verdict) → first (replan_rows J current goal slice) ≡ v
      → ReplansBy v J goal minute K slice answer after → Shortest J goal minute K slice answer after
  shortest_by_verdict pass (Ok _) rows p =
      shortest_by_makespan J goal minute K slice answer after (within rows) NoPlanWithKept (begun_steps rows) pass
      (makespan_from J goal minute K) refl (plans_with_kept rows p)
  shortest_by_verdict pass (Err why) rows p = absurd (refused_not_passed answer why p.answers pass)

  -- a plan that is handed out is a shortest one of those with the kept steps
  pub replan_is_shortest : Replans J current minute goal slice answer after → verdict_of answer ≡ pass
      → Shortest J goal minute K slice answer after
  replan_is_shortest h pass = shortest_by_verdict pass (first (replan_rows J current goal slice)) refl h

  none_by_verdict : (v : Verdict) → first (replan_rows J current goal slice) ≡ v
      → ReplansBy v J goal minute K slice answer after → verdict_of answer ≡ Err NoPlanWithKept
      → (bytes : List ℕ) → Accepted J goal bytes → Counts J minute K bytes → ⊥
  none_by_verdict (Ok _) rows p refused =
      none_by_makespan J goal minute K slice answer after (within rows) NoPlanWithKept
      (makespan_from J goal minute K) refl (plans_with_kept rows p) refused
  none_by_verdict (Err why) rows p refused = λ bytes accepted counts.
      never_first NoPlanWithKept (replan_rows J current goal slice) (tests_before_35 J current goal slice)
      (rows ∙ ap Err (refusals_same answer why NoPlanWithKept p.answers refused))

  -- 35 means that no plan with the kept steps is accepted for the goal
  pub no_plan_when_35 : Replans J current minute goal slice answer after → verdict_of answer ≡ Err NoPlanWithKept
      → (bytes : List ℕ) → Accepted J goal bytes → Counts J minute K bytes → ⊥
  no_plan_when_35 h = none_by_verdict (first (replan_rows J current goal slice)) refl h

  module _ (h : Replans J current minute goal slice answer after)
      (rows : first (replan_rows J current goal slice) ≡ pass) where
    -- where none of the tests before the search holds and some plan with the kept steps is accepted, a shortest one is
    -- handed out
    pub plan_when_counts : (bytes : List ℕ) → Accepted J goal bytes → Counts J minute K bytes
        → (verdict_of answer ≡ pass) × Shortest J goal minute K slice answer after
    plan_when_counts =
        shortest_when_accepted J goal minute K slice answer after (within rows) NoPlanWithKept (begun_steps rows)
        (makespan_from J goal minute K) refl (plans_when_tests_pass h rows)

    -- the current plan counts: where it meets the goal, the day ends no later than it does
    pub no_later_than_current : Accepted J goal current
        → (verdict_of answer ≡ pass) × ((told answer).end ≤ end (steps_in J current))
    no_later_than_current accepted =
        let shortest = plan_when_counts current accepted refl in
        (shortest.0, shortest.1.least.least current accepted refl)

-- at minute 0 nothing is kept: an ordinary planning call for the goal, with 35 where that gives 22
pub replan_at_0 : (J : Job) (current : List ℕ) (goal : ℕ) (slice : List ℕ) (answer : Result Day Refusal) (after : List ℕ)
    → Replans J current 0 goal slice answer after → first (replan_rows J current goal slice) ≡ pass
    → PlansFor (makespan J goal) NoPlanWithKept J goal 0 [] slice answer after
replan_at_0 J current goal slice answer after h rows =
    subst (λ (K : List Step). PlansFor (makespan_from J goal 0 K) NoPlanWithKept J goal 0 K slice answer after)
    (every_plan_counts J current) (plans_when_tests_pass J current 0 goal slice answer after h rows)
