-- The plan of the rest is what is left of the begun plan, in steps of the job of the rest.
-- Assumes nothing.
use Prim.Native.Nat.{ℕ, suc, ◌+◌, ◌-◌, ◌<◌, ◌≤◌}
use mathlib.Core.Path.{◌≡◌, refl, sym, ap, ◌∙◌}
use mathlib.Core.Bool.{Bool, true, false, cond}
use mathlib.Core.List.{List, [], ◌∷◌, ◌++◌, map}
use native.Mathlib.Omega.{arith}
use lib.Dec.{ltb}
use lib.ListN.{length, get_or, length-append, length-map, get_or-append}
use lib.Seq.{get_or-append-add}
use borrow.Author.Tests.{ltb-true, ltb-false, lt-ltb, le-ltb}
use Rattle.job.specs.Job.{Action, Job, no_action}
use Rattle.timeline.specs.Step.{Step}
use Rattle.timeline.specs.Places.{Place, here, EachStep}
use Rattle.timeline.specs.Keeps.{OfJob, PlanOf}
use Rattle.timeline.proofs.Places.{each_rest, place_append}
use Rattle.times.specs.Earliest.{action_of}
use Rattle.times.proofs.PlanSteps.{own_action, own_stop}
use Rattle.begun.specs.RestOfDay.{runs_in, running, rest_action, rest_of_job}
use Rattle.begun.specs.RestOfDay.{rest_step, new_steps, rest_steps, rest_of_plan}
use Rattle.begun.proofs.Rests.{LeftAs, Rest, none, done, left}

abbrev numbers : List Step → List ℕ
numbers R = map (λ (x : Step). x.number) R

-- the number that a step of the rest had: its own, or that of the running step whose place it has
unfoldable pub number_before : Job → ℕ → List Step → ℕ → ℕ
number_before J M K i =
    cond (ltb i (length J.actions)) i (get_or (numbers (running M K)) (i - length J.actions) 0)

number_of_new : (J : Job) (M : ℕ) (K : List Step) (i : ℕ) → i < length J.actions → number_before J M K i ≡ i
unfolding number_before
number_of_new J M K i l = rw (lt-ltb i (length J.actions) l) refl

number_of_running : (J : Job) (M : ℕ) (K : List Step) (k : ℕ)
    → number_before J M K (length J.actions + k) ≡ get_or (numbers (running M K)) k 0
unfolding number_before
number_of_running J M K k =
    let n : ℕ = length J.actions in
    let place : n + k - n ≡ k = omega arith in
    rw (le-ltb (n + k) n (omega arith), place) refl

own_step : (J : Job) (y : Step) → action_of J y.number ≡ y.action → y.stop ≡ y.start + y.action.duration
    → OfJob J y
own_step J y e s = rw (e, ← s) refl

-- ---- the kept steps
-- the job J has what is left of the steps R as its actions from n on, and `was` their numbers
record Holds (J : Job) (M : ℕ) (was : ℕ → ℕ) (n : ℕ) (R : List Step) : Type 0 where
  pub actions : (k : ℕ) → action_of J (n + k) ≡ get_or (map (rest_action M) R) k no_action
  pub numbers : (k : ℕ) → was (n + k) ≡ get_or (numbers R) k 0
  pub within : n + length R ≤ length J.actions

module _ {J : Job} {M : ℕ} {was : ℕ → ℕ} where
  holds_rest : (n : ℕ) (x : Step) (R : List Step) → Holds J M was n (x ∷ R) → Holds J M was (suc n) R
  holds_rest n x R h =
      let within = h.within in
      let next : (k : ℕ) → suc n + k ≡ n + suc k = λ k. omega arith in
      record {
        actions = λ k. ap (action_of J) (next k) ∙ h.actions (suc k);
        numbers = λ k. ap was (next k) ∙ h.numbers (suc k);
        within = omega arith;
      }

  left_of_running : (n : ℕ) (x : Step) (R : List Step) → x.start < M → M < x.stop → Holds J M was n (x ∷ R)
      → LeftAs J M was n (rest_action M x).duration x
  left_of_running n x R before runs h =
      let within = h.within in
      let first : n ≡ n + 0 = omega arith in
      record {
        runs = runs;
        number = ap was first ∙ h.numbers 0;
        known = omega arith;
        own = own_step J (rest_step M n (rest_action M x).duration x) (ap (action_of J) first ∙ h.actions 0)
            (omega arith);
      }

  rest_of_kept : (K : List Step) → EachStep (λ x. x.start < M) K → (n : ℕ) → Holds J M was n (running M K)
      → Rest J M was K (rest_steps M n (running M K))
  rest_of_kept [] before n h = none
  rest_of_kept (x ∷ K) before n h =
      go (runs_in M x) refl (rest_of_kept K (each_rest (λ y. y.start < M) x K before)) h
    where
      go : (b : Bool) → runs_in M x ≡ b
          → ((n : ℕ) → Holds J M was n (running M K) → Rest J M was K (rest_steps M n (running M K)))
          → Holds J M was n (cond b (x ∷ running M K) (running M K))
          → Rest J M was (x ∷ K) (rest_steps M n (cond b (x ∷ running M K) (running M K)))
      go true e others h =
          let runs : M < x.stop = omega (arith, ltb-true) in
          left n (rest_action M x).duration (left_of_running n x (running M K) (before x K here) runs h)
          (others (suc n) (holds_rest n x (running M K) h))
      go false e others h = let stopped : x.stop ≤ M = omega (arith, ltb-false) in done stopped (others n h)

  -- ---- the new steps, each with its own number and action
  rest_with_new : {K R : List Step} → Rest J M was K R → (N : List Step)
      → EachStep (λ x. LeftAs J M was x.number x.action.duration x) N → Rest J M was (N ++ K) (new_steps M N ++ R)
  rest_with_new r [] h = r
  rest_with_new r (x ∷ N) h =
      left x.number x.action.duration (h x N here)
      (rest_with_new r N (each_rest (λ y. LeftAs J M was y.number y.action.duration y) x N h))

-- ---- both
module _ (J : Job) (M T goal : ℕ) (N K : List Step) (plan : PlanOf J T goal (N ++ K))
    (new : EachStep (λ x. M ≤ x.start) N) (kept : EachStep (λ x. x.start < M) K) where
  holds_running : Holds (rest_of_job J M K) M (number_before J M K) (length J.actions) (running M K)
  holds_running =
      record {
        actions = λ k. get_or-append-add J.actions (map (rest_action M) (running M K)) k no_action;
        numbers = number_of_running J M K;
        within = simp (length-append, length-map) (omega arith);
      }

  left_of_new : (x : Step) (Q : List Step) → Place x Q N
      → LeftAs (rest_of_job J M K) M (number_before J M K) x.number x.action.duration x
  left_of_new x Q i =
      let in_plan = place_append K i in
      let after = new x Q i in
      let lasts = plan.keeps.lasting x _ in_plan in
      let known = plan.known x _ in_plan in
      let own = own_action J T goal (N ++ K) plan in_plan in
      let stop = own_stop J T goal (N ++ K) plan in_plan in
      let sized = ap (λ (a : Action). a.duration) own in
      let more = length-append J.actions (map (rest_action M) (running M K)) in
      record {
        runs = omega arith;
        number = number_of_new J M K x.number known;
        known = omega arith;
        own = own_step (rest_of_job J M K) (rest_step M x.number x.action.duration x)
            (get_or-append J.actions _ no_action x.number known ∙ sym own) (omega arith);
      }

  pub rest_of_plan_lem : Rest (rest_of_job J M K) M (number_before J M K) (N ++ K) (rest_of_plan J M N K)
  rest_of_plan_lem = rest_with_new (rest_of_kept K kept (length J.actions) holds_running) N left_of_new
