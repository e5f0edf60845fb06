-- The makespan is the least end of the accepted plans, where there is one, and says so where there is none.
-- Assumes nothing.
use Prim.Native.Nat.{ℕ, zero, suc, ◌<◌, ◌≤◌}
use mathlib.Core.Path.{◌≡◌, refl, ap, ◌∙◌, subst}
use mathlib.Core.Bool.{Bool, true, false}
use mathlib.Core.Logic.{⊎_elim}
use mathlib.Core.List.{List, []}
use native.Mathlib.Nat.{eq-or-lt_of_le}
use native.Mathlib.Omega.{arith}
use lib.ListN.{length}
use Rattle.job.specs.Job.{Job}
use Rattle.job.specs.Passed.{Passed}
use Rattle.timeline.specs.Step.{Step, steps_in}
use Rattle.timeline.specs.Timeline.{end}
use Rattle.timeline.specs.Accepted.{Accepted}
use Rattle.timeline.specs.Places.{EachStep}
use Rattle.timeline.specs.Keeps.{OfJob}
use Rattle.timeline.proofs.Tests.{not_both, le_or_lt}
use Rattle.timeline.proofs.Places.{each_step, largest_at_most}
use Rattle.timeline.proofs.AcceptedSteps.{accepted_steps}
use Rattle.timeline.proofs.JobSteps.{steps_of_accepted}
use Rattle.makespan.specs.Makespan.{Makespan, ends_at, no_plan, Counts, LeastEnd, solvable, least_below}
use Rattle.makespan.specs.Makespan.{makespan_from}
use Rattle.makespan.proofs.Search.{none_begun, solvable_of_accepted, accepted_of_solvable}

-- ---- the least number below n that passes a test
-- what is so of it, or that there is none
abbrev LeastBelow : ℕ → (ℕ → Bool) → Makespan → Type 0
LeastBelow n test (ends_at e) = (test e ≡ true) × (e < n) × ((k : ℕ) → k < e → test k ≡ false)
LeastBelow n test no_plan = (k : ℕ) → k < n → test k ≡ false

least_below_lem : (n : ℕ) (test : ℕ → Bool) → LeastBelow n test (least_below n test)
least_below_lem zero test = λ k l. absurd (omega arith)
least_below_lem (suc n) test = go (least_below n test) (least_below_lem n test) (test n) refl
  where
    go : (m : Makespan) → LeastBelow n test m → (b : Bool) → test n ≡ b
        → LeastBelow (suc n) test
        (elim m [ ends_at e ↦ ends_at e | no_plan ↦ elim b [ true ↦ ends_at n | false ↦ no_plan ] ])
    go (ends_at e) h b q = let l = h.1 in (h.0, omega arith, h.2)
    go no_plan none true q = (q, omega arith, none)
    go no_plan none false q = λ k l.
        ⊎_elim (λ e. let z : k ≡ n = omega arith in rw z q) (λ m. none k (omega arith)) (eq-or-lt_of_le l)

module _ (J : Job) (goal minute : ℕ) (K : List Step) where
  least_of_makespan : (m : Makespan) → makespan_from J goal minute K ≡ m
      → LeastBelow (suc J.deadline) (solvable J goal minute K) m
  unfolding makespan_from
  least_of_makespan m h =
      subst (LeastBelow (suc J.deadline) (solvable J goal minute K)) h
      (least_below_lem (suc J.deadline) (solvable J goal minute K))

-- an accepted plan ends by the deadline
pub ends_by_deadline : (J : Job) (goal : ℕ) (bytes : List ℕ) → Accepted J goal bytes
    → end (steps_in J bytes) ≤ J.deadline
ends_by_deadline J goal bytes accepted =
    largest_at_most (λ x. x.stop) J.deadline (steps_in J bytes)
    (accepted_steps J goal (steps_in J bytes) (steps_of_accepted J goal bytes accepted)).before_deadline

-- K are begun steps: at most 32 steps of the job that start before the minute
pub record BegunSteps (J : Job) (minute : ℕ) (K : List Step) : Type 0 where
  pub own : EachStep (OfJob J) K
  pub early : EachStep (λ x. x.start < minute) K
  pub few : length K ≤ 32

module _ (J : Job) (goal minute : ℕ) (K : List Step) (passed : Passed J) where
  -- where the makespan says that there is no plan, no plan that counts is accepted
  pub none_accepted_when_no_plan : makespan_from J goal minute K ≡ no_plan
      → (bytes : List ℕ) → Accepted J goal bytes → Counts J minute K bytes → ⊥
  none_accepted_when_no_plan h bytes accepted counts =
      not_both
      (solvable_of_accepted J goal minute J.deadline K bytes passed accepted counts
      (ends_by_deadline J goal bytes accepted))
      (least_of_makespan J goal minute K no_plan h J.deadline (omega arith))

  module _ (kept : BegunSteps J minute K) where
    -- a makespan is the end of an accepted plan that counts, and no other ends earlier
    pub least_end_of_makespan : (e : ℕ) → makespan_from J goal minute K ≡ ends_at e → LeastEnd J goal minute K e
    least_end_of_makespan e h =
        let l = least_of_makespan J goal minute K (ends_at e) h in
        let found = accepted_of_solvable J goal minute e K passed kept.own kept.early kept.few l.0 in
        let by = found.3 in
        let least : (bytes : List ℕ) → Accepted J goal bytes → Counts J minute K bytes → e ≤ end (steps_in J bytes) =
        λ bytes accepted counts.
        ⊎_elim (λ r. r)
        (λ r.
        not_both
        (solvable_of_accepted J goal minute (end (steps_in J bytes)) K bytes passed accepted counts (omega arith))
        (l.2 (end (steps_in J bytes)) r))
        (le_or_lt e (end (steps_in J bytes))) in
        let a = least found.0 found.1 found.2 in
        record { plan = (found.0, found.1, found.2, omega arith); least = least }

    -- the least end of the accepted plans that count is the makespan
    pub makespan_of_least_end : (e : ℕ) → LeastEnd J goal minute K e → makespan_from J goal minute K ≡ ends_at e
    makespan_of_least_end e least = go (makespan_from J goal minute K) refl
      where
        go : (m : Makespan) → makespan_from J goal minute K ≡ m → makespan_from J goal minute K ≡ ends_at e
        go (ends_at d) h =
            let other = least_end_of_makespan d h in
            let a = other.least least.plan.0 least.plan.1 least.plan.2 in
            let b = least.least other.plan.0 other.plan.1 other.plan.2 in
            let p = least.plan.3 in
            let q = other.plan.3 in
            let same : d ≡ e = omega arith in
            h ∙ ap ends_at same
        go no_plan h = absurd (none_accepted_when_no_plan h least.plan.0 least.plan.1 least.plan.2)

    -- where no plan that counts is accepted, the makespan says so
    pub makespan_when_none_accepted : ((bytes : List ℕ) → Accepted J goal bytes → Counts J minute K bytes → ⊥)
        → makespan_from J goal minute K ≡ no_plan
    makespan_when_none_accepted none = go (makespan_from J goal minute K) refl
      where
        go : (m : Makespan) → makespan_from J goal minute K ≡ m → makespan_from J goal minute K ≡ no_plan
        go (ends_at d) h =
            let plan = (least_end_of_makespan d h).plan in absurd (none plan.0 plan.1 plan.2)
        go no_plan h = h

-- ---- a whole day: "every plan counts"
pub every_plan_counts : (J : Job) (bytes : List ℕ) → Counts J 0 [] bytes
every_plan_counts J bytes = none_begun 0 (steps_in J bytes) (λ x Q i. omega arith)

pub nothing_begun : (J : Job) → BegunSteps J 0 []
nothing_begun J =
    record {
      own = each_step (OfJob J) [] tt;
      early = each_step (λ x. x.start < 0) [] tt;
      few = omega arith;
    }
