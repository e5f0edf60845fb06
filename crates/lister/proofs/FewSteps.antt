-- Each plan of the list has at most 32 steps.
-- Assumes nothing.
use Rattle.timeline.specs.Day.{told}
use Rattle.job.specs.declared.refusal.Refusal.{Refusal}
use Rattle.std.specs.Prelude.{Result, Ok, Err}
use Prim.Native.Nat.{ℕ, ◌≤◌}
use mathlib.Core.Path.{ap, subst}
use mathlib.Core.Logic.{⊎_elim}
use mathlib.Core.List.{List}
use native.Mathlib.Omega.{arith}
use lib.ListN.{length}
use Rattle.job.specs.Job.{Job}
use Rattle.job.specs.Refusal.{first}
use Rattle.job.specs.declared.refusal.Refusal.TheVariants.{NoPlan, ListEnded}
use Rattle.job.specs.Refusal.{Verdict}
use Rattle.job.specs.Refusal.{pass}
use Rattle.timeline.specs.declared.Day.{Day}
use Rattle.timeline.specs.Step.{Step, plan_bytes}
use Rattle.timeline.proofs.DayLaws.{few_without_day}
use Rattle.timeline.proofs.PlanBytes.{few_steps_of_accepted}
use Rattle.makespan.specs.Makespan.{Makespan, ends_at, no_plan, makespan}
use Rattle.planner.specs.Plan.{plan_refusals}
use Rattle.listing.specs.Listed.{Listed}
use Rattle.lister.specs.List.{ListsFor, ListsBy, Lists}

pub listed_steps_are_few : (J : Job) (place : ℕ) (slice : List ℕ) (answer : Result Day Refusal) (after : List ℕ)
    → Lists J place slice answer after → (told answer).steps ≤ 32
listed_steps_are_few J place slice answer after lists = by_verdict (first (plan_refusals J slice)) lists
  where
    few_in_list : (P : List Step) → Listed J J.goal P → length P ≤ 32
    few_in_list P listed =
        subst (λ (Q : List Step). length Q ≤ 32) listed.in_bytes
        (few_steps_of_accepted J J.goal (plan_bytes P) listed.accepted)

    by_makespan : (m : Makespan) → ListsFor m J J.goal place slice answer after → (told answer).steps ≤ 32
    by_makespan (ends_at e) p =
        ⊎_elim
        (λ out.
        let few = few_in_list out.plan out.at.listed in
        let count = ap (λ (d : Result Day Refusal). (told d).steps) out.answers in
        omega arith)
        (λ ended. few_without_day ListEnded answer ended.1.answers)
        p
    by_makespan no_plan p = few_without_day NoPlan answer p.answers

    by_verdict : (v : Verdict) → ListsBy v J place slice answer after → (told answer).steps ≤ 32
    by_verdict (Ok _) p = by_makespan (makespan J J.goal) p
    by_verdict (Err why) p = few_without_day why answer p.answers
