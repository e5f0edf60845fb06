-- The begun steps of a plan: what holds of each of its steps holds of them; where they pass alone, no plan that counts
-- ends earlier.
-- Assumes nothing.
use Prim.Native.Nat.{ℕ, ◌≤◌, ◌<◌}
use mathlib.Core.Path.{◌≡◌, refl, sym, ap, ◌∙◌, subst}
use mathlib.Core.Bool.{Bool, true, false, cond}
use mathlib.Core.List.{List, [], ◌∷◌, ◌++◌, append-nil}
use native.Mathlib.Omega.{arith}
use lib.Dec.{ltb}
use lib.ListN.{length, length-append}
use Rattle.lists.proofs.Bools.{and_left, and_right}
use Rattle.job.specs.Job.{Job}
use Rattle.job.specs.Passed.{Passed}
use Rattle.job.specs.Refusal.{first}
use Rattle.timeline.specs.Step.{Step, steps_in, before, strictly_rising, plan_bytes}
use Rattle.timeline.specs.Timeline.{end}
use Rattle.timeline.specs.Accepted.{Accepted, step_rows}
use Rattle.timeline.specs.Keeps.{OfJob}
use Rattle.timeline.specs.Places.{here, EachStep}
use Rattle.timeline.proofs.AcceptedSteps.{accepted_steps}
use Rattle.timeline.proofs.JobSteps.{steps_in_bytes, steps_of_accepted}
use Rattle.timeline.proofs.Places.{each_step, each_rest, each_cons, largest_at_least, largest_at_most}
use Rattle.timeline.proofs.PlanBytes.{accepted_bytes_of_steps, few_steps_of_accepted}
use Rattle.timeline.proofs.Tests.{and_both}
use Rattle.makespan.specs.Makespan.{begun, passes, Counts, LeastEnd}
use Rattle.makespan.proofs.Search.{pass_of_test, begun_of_append, rising_begun, begun_are_begun}
use Rattle.makespan.proofs.LeastEnds.{BegunSteps}

-- ---- of any steps
pub begun_snoc : (minute : ℕ) (P : List Step) (x : Step)
    → begun minute (P ++ (x ∷ [])) ≡ begun minute P ++ cond (ltb x.start minute) (x ∷ []) []
begun_snoc minute [] x = refl
begun_snoc minute (y ∷ P) x =
    go (ltb y.start minute) (cond (ltb x.start minute) (x ∷ []) []) (begun_snoc minute P x)
  where
    go : (b : Bool) (more : List Step) → begun minute (P ++ (x ∷ [])) ≡ begun minute P ++ more
        → cond b (y ∷ begun minute (P ++ (x ∷ []))) (begun minute (P ++ (x ∷ [])))
        ≡ cond b (y ∷ begun minute P) (begun minute P) ++ more
    go true more e = ap (λ (Q : List Step). y ∷ Q) e
    go false more e = e

pub all_begun : (minute : ℕ) (P : List Step) → EachStep (λ x. x.start < minute) P → begun minute P ≡ P
all_begun minute P early =
    ap (begun minute) (sym (append-nil P))
    ∙ begun_of_append minute P [] early (each_step (λ x. minute ≤ x.start) [] tt)

pub each_begun : (F : Step → Type 0) (minute : ℕ) (P : List Step) → EachStep F P → EachStep F (begun minute P)
each_begun F minute [] h = h
each_begun F minute (x ∷ P) h = go (ltb x.start minute) (each_begun F minute P (each_rest F x P h))
  where
    go : (b : Bool) → EachStep F (begun minute P) → EachStep F (cond b (x ∷ begun minute P) (begun minute P))
    go true r = each_cons F x (begun minute P) (h x P here) r
    go false r = r

begun_ends_no_later : (minute : ℕ) (P : List Step) → end (begun minute P) ≤ end P
begun_ends_no_later minute P =
    largest_at_most (λ x. x.stop) (end P) (begun minute P)
    (each_begun (λ x. x.stop ≤ end P) minute P (λ x Q i. largest_at_least (λ y. y.stop) i))

-- ---- of steps in rising order
rising_front : (P Q : List Step) → strictly_rising (P ++ Q) ≡ true → strictly_rising P ≡ true
rising_front [] Q h = refl
rising_front (x ∷ []) Q h = refl
rising_front (x ∷ y ∷ P) Q h =
    and_both (and_left (before x y) (strictly_rising (y ∷ (P ++ Q))) h)
    (rising_front (y ∷ P) Q (and_right (before x y) (strictly_rising (y ∷ (P ++ Q))) h))

pub begun_rise : (minute : ℕ) (P : List Step) → strictly_rising P ≡ true → strictly_rising (begun minute P) ≡ true
begun_rise minute P h =
    let split = rising_begun minute P h in
    rising_front (begun minute P) split.0 (subst (λ (Q : List Step). strictly_rising Q ≡ true) split.1 h)

-- ---- of a plan in bytes
-- those of an accepted plan are begun steps of the job
pub begun_of_accepted : (J : Job) (goal minute : ℕ) (bytes : List ℕ) → Accepted J goal bytes
    → BegunSteps J minute (begun minute (steps_in J bytes))
begun_of_accepted J goal minute bytes accepted =
    let P : List Step = steps_in J bytes in
    let rising = (accepted_steps J goal P (steps_of_accepted J goal bytes accepted)).rising in
    let split = rising_begun minute P rising in
    let all = ap length split.1 in
    let sum = length-append (begun minute P) split.0 in
    let most = few_steps_of_accepted J goal bytes accepted in
    record {
      own = each_begun (OfJob J) minute P (steps_in_bytes J bytes);
      early = begun_are_begun minute P;
      few = omega arith;
    }

-- ---- begun steps that pass alone
module _ (J : Job) (goal minute : ℕ) (K : List Step) (within : Passed J) (kept : BegunSteps J minute K)
    (alone : passes J goal K ≡ true) where
  -- they are a plan that is accepted and counts, and no other such plan ends earlier
  pub accepted_alone : Accepted J goal (plan_bytes K) × (steps_in J (plan_bytes K) ≡ K)
  accepted_alone =
      accepted_bytes_of_steps J goal K within kept.own kept.few (pass_of_test (first (step_rows J goal K)) alone)

  pub counts_alone : Counts J minute K (plan_bytes K)
  counts_alone = ap (begun minute) accepted_alone.1 ∙ all_begun minute K kept.early

  pub least_alone : LeastEnd J goal minute K (end K)
  least_alone =
      record {
        plan = (plan_bytes K, accepted_alone.0, counts_alone, ap end accepted_alone.1);
        least = λ bytes accepted counts.
            subst (λ (B : List Step). end B ≤ end (steps_in J bytes)) counts
            (begun_ends_no_later minute (steps_in J bytes));
      }
