-- What follows from the promise of `list`: nothing is left open; a plan handed out ends where the planner's ends; 22 comes
-- exactly where the planner says 22, and 28 exactly where the list is not longer than the place.
-- Assumes nothing.
use Rattle.timeline.specs.Day.{told}
use Rattle.std.specs.Prelude.{Result, Ok, Err}
use Prim.Native.Nat.{ℕ}
use mathlib.Core.Path.{◌≡◌, refl, sym, ap, ◌∙◌}
use mathlib.Core.Bool.{false}
use mathlib.Core.Logic.{inl, inr}
use mathlib.Core.List.{List, []}
use native.Mathlib.Omega.{arith}
use Rattle.encoding.specs.Bytes.{overwrite}
use Rattle.job.specs.Job.{Job}
use Rattle.job.specs.Refusal.{verdict_of, number, first}
use Rattle.job.specs.Passed.{Passed}
use Rattle.job.specs.Valid.{job_rows, limit_rows, action_rows}
use Rattle.job.proofs.Passed.{passed}
use Rattle.job.proofs.Table.{pass_of_append}
use Rattle.job.specs.declared.refusal.Refusal.{Refusal}
use Rattle.job.specs.declared.refusal.Refusal.TheVariants.{NoPlan, ListEnded}
use Rattle.job.specs.Refusal.{Verdict}
use Rattle.job.specs.Refusal.{pass}
use Rattle.timeline.specs.Step.{Step, steps_in, plan_bytes}
use Rattle.timeline.specs.Timeline.{end}
use Rattle.timeline.specs.Day.{told_of}
use Rattle.timeline.specs.declared.Day.{Day}
use Rattle.makespan.specs.Makespan.{Makespan, ends_at, no_plan, LeastEnd, makespan}
use Rattle.makespan.proofs.LeastEnds.{least_end_of_makespan, every_plan_counts, nothing_begun}
use Rattle.planner.specs.Plan.{plan_refusals, RefusedWith, PlansFor, PlansBy, Plans}
use Rattle.planner.proofs.Shortest.{has_number, never_first}
use Rattle.listing.specs.Listed.{Listed}
use Rattle.listing.specs.Place.{EndsBefore}
use Rattle.listing.proofs.Places.{one_plan_at_place, not_at_place_and_ended}
use Rattle.lister.specs.List.{HandsOutPlace, ListsFor, ListsBy, Lists}

module _ (J : Job) (place : ℕ) (slice : List ℕ) (r s : Result Day Refusal) (after then : List ℕ) where
  abbrev Same : Type 0
  Same = (r ≡ s) × (after ≡ then)

  same_refusal : (why : Refusal) → RefusedWith why slice r after → RefusedWith why slice s then → Same
  same_refusal why a b = (a.answers ∙ sym b.answers, a.keeps ∙ sym b.keeps)

  same_plan : HandsOutPlace J J.goal place slice r after → HandsOutPlace J J.goal place slice s then → Same
  same_plan a b =
      let e = one_plan_at_place J J.goal place a.plan b.plan a.at b.at in (
        a.answers ∙ ap (λ (P : List Step). Ok (told_of J P)) e ∙ sym b.answers,
        a.leaves ∙ ap (λ (P : List Step). overwrite slice 0 (plan_bytes P)) e ∙ sym b.leaves,
      )

  pub one_answer : Lists J place slice r after → Lists J place slice s then → Same
  one_answer = by_verdict (first (plan_refusals J slice))
    where
      by_makespan : (m : Makespan) → ListsFor m J J.goal place slice r after
          → ListsFor m J J.goal place slice s then → Same
      by_makespan (ends_at e) (inl a) (inl b) = same_plan a b
      by_makespan (ends_at e) (inl a) (inr b) =
          absurd (not_at_place_and_ended J J.goal place a.plan a.at b.0)
      by_makespan (ends_at e) (inr a) (inl b) =
          absurd (not_at_place_and_ended J J.goal place b.plan b.at a.0)
      by_makespan (ends_at e) (inr a) (inr b) = same_refusal _ a.1 b.1
      by_makespan no_plan a b = same_refusal _ a b

      by_verdict : (v : Verdict) → ListsBy v J place slice r after → ListsBy v J place slice s then → Same
      by_verdict (Ok _) a b = by_makespan (makespan J J.goal) a b
      by_verdict (Err why) a b = same_refusal why a b

-- every listed plan ends at the makespan
pub listed_ends_at_makespan : (J : Job) (goal e : ℕ) → Passed J → makespan J goal ≡ ends_at e → (P : List Step)
    → Listed J goal P → end P ≡ e
listed_ends_at_makespan J goal e within q P listed =
    let least : LeastEnd J goal 0 [] e = least_end_of_makespan J goal 0 [] within (nothing_begun J) e q in
    let p = least.plan in
    let most = listed.least p.0 p.1 in
    let ends = p.3 in
    let own : end (steps_in J (plan_bytes P)) ≡ end P = ap end listed.in_bytes in
    let least = least.least (plan_bytes P) listed.accepted (every_plan_counts J (plan_bytes P)) in
    omega arith

pass_not_refused : {v : Verdict} {why : Refusal} → v ≡ pass → v ≡ Err why → ⊥
pass_not_refused a b = cc

refused_once : {v : Verdict} {why other : Refusal} → v ≡ Err why → v ≡ Err other → why ≡ other
refused_once a b = cc

tests_before_28 : (J : Job) (slice : List ℕ) → has_number 28 (plan_refusals J slice) ≡ false
unfolding job_rows limit_rows action_rows
tests_before_28 J slice = refl

-- ---- beside the planner's answer s to the same job and slice
module _ (J : Job) (place : ℕ) (slice : List ℕ) (r s : Result Day Refusal) (after then : List ℕ) where
  -- both are refused by the same number, which is not 28; or both hand out plans with the same end; or the planner alone
  -- does, and the list ends before the place
  pub data BesidePlanner : Type 0 where
    refused_alike : (why : Refusal) → (why ≡ ListEnded → ⊥) → verdict_of r ≡ Err why → verdict_of s ≡ Err why
        → BesidePlanner
    handed_out : verdict_of r ≡ pass → verdict_of s ≡ pass → (told r).end ≡ (told s).end → (EndsBefore J J.goal place → ⊥)
        → BesidePlanner
    ended : verdict_of r ≡ Err ListEnded → verdict_of s ≡ pass → EndsBefore J J.goal place → BesidePlanner

  told_by : {a b : Result Day Refusal} → a ≡ b → verdict_of a ≡ (verdict_of b)
  told_by e = ap (λ (d : Result Day Refusal). (verdict_of d)) e

  pub beside_planner : Lists J place slice r after → Plans J slice s then → BesidePlanner
  beside_planner = by_verdict (first (plan_refusals J slice)) refl
    where
      by_makespan : Passed J → (m : Makespan) → makespan J J.goal ≡ m → ListsFor m J J.goal place slice r after
          → PlansFor m NoPlan J J.goal 0 [] slice s then → BesidePlanner
      by_makespan within (ends_at e) q (inl a) b =
          handed_out (told_by a.answers) (told_by b.answers)
          (ap (λ (d : Result Day Refusal). (told d).end) a.answers
          ∙ listed_ends_at_makespan J J.goal e within q a.plan a.at.listed
          ∙ sym (ap (λ (d : Result Day Refusal). (told d).end) b.answers ∙ b.end))
          (not_at_place_and_ended J J.goal place a.plan a.at)
      by_makespan within (ends_at e) q (inr a) b = ended (told_by a.1.answers) (told_by b.answers) a.0
      by_makespan within no_plan q a b =
          refused_alike NoPlan (λ e. let z : ◌≡◌ {A = ℕ} 22 28 = ap number e in omega arith) (told_by a.answers)
          (told_by b.answers)

      by_verdict : (v : Verdict) → first (plan_refusals J slice) ≡ v → ListsBy v J place slice r after
          → PlansBy v J slice s then → BesidePlanner
      by_verdict (Ok _) q a b =
          by_makespan (passed J (pass_of_append (job_rows J) _ q).0) (makespan J J.goal) refl a b
      by_verdict (Err why) q a b =
          refused_alike why
          (λ e. never_first ListEnded (plan_refusals J slice) (tests_before_28 J slice) (q ∙ ap Err e))
          (told_by a.answers) (told_by b.answers)

  module _ (lists : Lists J place slice r after) (plans : Plans J slice s then) where
    -- a plan handed out ends where the planner's ends
    pub same_end_as_planned : verdict_of r ≡ pass → (verdict_of s ≡ pass) × ((told r).end ≡ (told s).end)
    same_end_as_planned passes = go (beside_planner lists plans)
      where
        go : BesidePlanner → (verdict_of s ≡ pass) × ((told r).end ≡ (told s).end)
        go (refused_alike why other a b) = absurd (pass_not_refused passes a)
        go (handed_out a b same more) = (b, same)
        go (ended a b short) = absurd (pass_not_refused passes a)

    -- 22 exactly where the planner says 22
    pub no_plan_as_planned : (verdict_of r ≡ Err NoPlan → verdict_of s ≡ Err NoPlan)
        × (verdict_of s ≡ Err NoPlan → verdict_of r ≡ Err NoPlan)
    no_plan_as_planned = go (beside_planner lists plans)
      where
        go : BesidePlanner → (verdict_of r ≡ Err NoPlan → verdict_of s ≡ Err NoPlan)
            × (verdict_of s ≡ Err NoPlan → verdict_of r ≡ Err NoPlan)
        go (refused_alike why other a b) = (λ h. b ∙ sym a ∙ h, λ h. a ∙ sym b ∙ h)
        go (handed_out a b same more) = (λ h. absurd (pass_not_refused a h), λ h. absurd (pass_not_refused b h))
        go (ended a b short) = (
          λ h. let z : ◌≡◌ {A = ℕ} 28 22 = ap number (refused_once a h) in absurd (omega arith),
          λ h. absurd (pass_not_refused b h),
        )

    -- 28 exactly where there is a shortest day and the list is not longer than the place
    pub ended_exactly : (verdict_of r ≡ Err ListEnded → (verdict_of s ≡ pass) × EndsBefore J J.goal place)
        × (verdict_of s ≡ pass → EndsBefore J J.goal place → verdict_of r ≡ Err ListEnded)
    ended_exactly = go (beside_planner lists plans)
      where
        go : BesidePlanner → (verdict_of r ≡ Err ListEnded → (verdict_of s ≡ pass) × EndsBefore J J.goal place)
            × (verdict_of s ≡ pass → EndsBefore J J.goal place → verdict_of r ≡ Err ListEnded)
        go (refused_alike why other a b) =
            (λ h. absurd (other (refused_once a h)), λ passes short. absurd (pass_not_refused passes b))
        go (handed_out a b same more) = (λ h. absurd (pass_not_refused a h), λ passes short. absurd (more short))
        go (ended a b short) = (λ h. (b, short), λ passes also. a)
