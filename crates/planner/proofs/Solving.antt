-- The ways out of the planner: a job or a slice that is refused, and the answer of the search handed out.
-- Assumes nothing.
use Rattle.std.specs.Prelude.{Option, Result, Ok, Err}
use Prim.Native.Nat.{ℕ, ◌≤◌, ◌<◌}
use mathlib.Core.Path.{◌≡◌, sym, ◌∙◌, subst}
use mathlib.Core.List.{List, []}
use lib.ListN.{length}
use borrow.Author.Tests.{lt-ltb, le-ltb}
use Rattle.job.specs.declared.refusal.Refusal.{Refusal}
use Rattle.job.specs.declared.refusal.Refusal.TheVariants.{PlanSlice, NoPlan}
use Rattle.job.specs.Refusal.{Verdict}
use Rattle.job.specs.Refusal.{pass}
use Rattle.job.specs.Job.{Job}
use Rattle.job.specs.Refusal.{first}
use Rattle.job.specs.Valid.{job_rows}
use Rattle.job.proofs.Table.{first_here, first_next, first_append_pass, first_append_refused, first_none}
use Rattle.timeline.specs.declared.Day.{Day}
use Rattle.leaf.specs.declared.Answer.{Answer}
use Rattle.solver.specs.Task.{Solved}
use Rattle.planner.specs.Plan.{plan_refusals, PlansBy, Plans, HandedOut}
use Rattle.planner.proofs.HandingOut.{refused_with_lem, plans_when_solved}

module _ (J : Job) (slice : List ℕ) where
  by_verdict : (v : Verdict) (answer : Result Day Refusal) (after : List ℕ) → first (plan_refusals J slice) ≡ v
      → PlansBy v J slice answer after → Plans J slice answer after
  by_verdict v answer after e h = subst (λ (w : Verdict). PlansBy w J slice answer after) (sym e) h

  -- a job that fails its tests
  pub plans_refused : (why : Refusal) (r : Result Day Refusal) → r ≡ Err why → first (job_rows J) ≡ Err why
      → Plans J slice r slice
  plans_refused why r told e =
      by_verdict (Err why) r slice (first_append_refused (job_rows J) _ why e) (refused_with_lem slice why r told)

  -- a slice that is too short
  pub plans_short : (r : Result Day Refusal) → r ≡ Err PlanSlice → first (job_rows J) ≡ pass → length slice < 96
      → Plans J slice r slice
  plans_short r told passes short =
      by_verdict (Err PlanSlice) r slice
      (first_append_pass (job_rows J) _ passes ∙ first_here PlanSlice _ [] (lt-ltb (length slice) 96 short))
      (refused_with_lem slice PlanSlice r told)

  -- what the search found, or that it found nothing
  pub plans_answered : first (job_rows J) ≡ pass → 96 ≤ length slice → (a : Option Answer) → Solved J J.goal 0 [] a
      → (r : Result Day Refusal) (after : List ℕ) → HandedOut a NoPlan slice r after → Plans J slice r after
  plans_answered passes room a solved r after handed =
      by_verdict pass r after
      (first_append_pass (job_rows J) _ passes
      ∙ first_next PlanSlice _ [] (le-ltb (length slice) 96 room)
      ∙ first_none)
      (plans_when_solved J J.goal 0 [] a solved NoPlan slice r after handed)
