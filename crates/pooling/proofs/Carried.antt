-- Steps that keep the rules of a job, at most 32 of them, give an accepted plan that ends no later; and jobs whose
-- accepted plans can be carried over to each other have one makespan.
-- Assumes nothing.
use Prim.Native.Nat.{ℕ, ◌<◌, ◌≤◌}
use mathlib.Core.Path.{◌≡◌, refl, sym, ap, ◌∙◌}
use mathlib.Core.Bool.{Bool, true, false}
use mathlib.Core.List.{List, []}
use native.Mathlib.Omega.{arith}
use lib.ListN.{length}
use Rattle.job.specs.Job.{Job}
use Rattle.job.specs.Passed.{Passed}
use Rattle.timeline.specs.Step.{Step, steps_in, plan_bytes}
use Rattle.timeline.specs.Timeline.{end}
use Rattle.timeline.specs.Accepted.{Accepted}
use Rattle.timeline.proofs.Tests.{not_both}
use Rattle.timeline.specs.Places.{EachStep}
use Rattle.timeline.specs.Keeps.{OfJob, Keeps}
use Rattle.timeline.proofs.Permutations.{permutation_each, permutation_length}
use Rattle.timeline.proofs.Sorting.{accepted_when_sorted}
use Rattle.timeline.proofs.PlanBytes.{accepted_bytes_of_steps}
use Rattle.makespan.specs.Makespan.{Makespan, ends_at, no_plan, makespan}
use Rattle.makespan.proofs.LeastEnds.{least_end_of_makespan, none_accepted_when_no_plan, every_plan_counts}
use Rattle.makespan.proofs.LeastEnds.{nothing_begun}

-- an accepted plan that ends by minute T
pub record PlanBy (J : Job) (goal T : ℕ) : Type 0 where
  pub bytes : List ℕ
  pub accepted : Accepted J goal bytes
  pub early : end (steps_in J bytes) ≤ T

pub plan_of_keeps : (J : Job) (goal T : ℕ) (P : List Step) → Passed J → T ≤ J.deadline → EachStep (OfJob J) P
    → EachStep (λ x. x.number < length J.actions) P → length P ≤ 32 → Keeps J T goal P → PlanBy J goal T
plan_of_keeps J goal T P passed by own known few keeps =
    let s = accepted_when_sorted J goal P T by known keeps in
    let n = permutation_length s.1 in
    let plan = accepted_bytes_of_steps J goal s.0 passed (permutation_each (OfJob J) s.1 own) (omega arith)
    s.2 in
    let ends = s.3 in
    let same = ap end plan.1 in
    record { bytes = plan_bytes s.0; accepted = plan.0; early = omega arith }

-- where a plan ends by T, there is a makespan of at most T
pub makespan_by : (J : Job) (goal T : ℕ) → Passed J → PlanBy J goal T
    → (e : ℕ) × (makespan J goal ≡ ends_at e) × (e ≤ T)
makespan_by J goal T passed plan = go (makespan J goal) refl
  where
    go : (m : Makespan) → makespan J goal ≡ m → (e : ℕ) × (makespan J goal ≡ ends_at e) × (e ≤ T)
    go (ends_at e) h =
        let least = (least_end_of_makespan J goal 0 [] passed (nothing_begun J) e h).least plan.bytes
        plan.accepted (every_plan_counts J plan.bytes) in
        let by = plan.early in
        (e, h, omega arith)
    go no_plan h =
        absurd (none_accepted_when_no_plan J goal 0 [] passed h plan.bytes plan.accepted
        (every_plan_counts J plan.bytes))

-- every accepted plan of J can be carried over to one of W that ends no later
abbrev pub CarriesOver : Job → ℕ → Job → ℕ → Type 0
CarriesOver J goal W other = (bytes : List ℕ) → Accepted J goal bytes → PlanBy W other (end (steps_in J bytes))

pub same_makespan : (J W : Job) (goal other : ℕ) → Passed J → Passed W → CarriesOver J goal W other
    → CarriesOver W other J goal → makespan J goal ≡ makespan W other
same_makespan J W goal other passed passed' over back = go (makespan J goal) (makespan W other) refl refl
  where
    least : (J W : Job) (goal other e : ℕ) → Passed J → Passed W → CarriesOver J goal W other
        → makespan J goal ≡ ends_at e → (d : ℕ) × (makespan W other ≡ ends_at d) × (d ≤ e)
    least J W goal other e passed passed' over h =
        let plan = (least_end_of_makespan J goal 0 [] passed (nothing_begun J) e h).plan in
        let ends = plan.3 in
        let found = makespan_by W other (end (steps_in J plan.0)) passed' (over plan.0 plan.1) in
        let by = found.2 in
        (found.0, found.1, omega arith)

    ends : Makespan → Bool
    ends (ends_at e) = true
    ends no_plan = false

    number : Makespan → ℕ
    number (ends_at e) = e
    number no_plan = 0

    go : (m n : Makespan) → makespan J goal ≡ m → makespan W other ≡ n → makespan J goal ≡ makespan W other
    go (ends_at e) n h k =
        let there = least J W goal other e passed passed' over h in
        let here = least W J other goal there.0 passed' passed back there.1 in
        let a = there.2 in
        let b = here.2 in
        let same : here.0 ≡ e = ap number (sym here.1 ∙ h) in
        let equal : e ≡ there.0 = omega arith in
        h ∙ ap ends_at equal ∙ sym there.1
    go no_plan (ends_at d) h k =
        let here = least W J other goal d passed' passed back k in
        not_both (ap ends here.1) (ap ends h)
    go no_plan no_plan h k = h ∙ sym k
