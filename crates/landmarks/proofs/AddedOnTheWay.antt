-- In a plan, each landmark of what holds at a minute is added by a new step that stops by then.
-- Assumes nothing.
use Prim.Native.Nat.{ℕ, zero, suc, ◌<◌, ◌≤◌}
use mathlib.Core.Path.{◌≡◌, ap, ◌∙◌}
use mathlib.Core.Bool.{true, false}
use mathlib.Core.Logic.{⊎_elim}
use mathlib.Core.List.{List, ◌++◌}
use native.Mathlib.Omega.{arith}
use Rattle.facts.specs.FactSet.{has, Subset}
use Rattle.facts.proofs.Membership.{has_zero}
use Rattle.facts.proofs.SetLaws.{in_union_cases}
use Rattle.job.specs.Job.{Job}
use Rattle.timeline.specs.Step.{Step}
use Rattle.timeline.specs.Timeline.{held}
use Rattle.timeline.specs.Places.{Place, EachStep}
use Rattle.timeline.specs.Keeps.{PlanOf}
use Rattle.timeline.proofs.Tests.{not_both}
use Rattle.timeline.proofs.Places.{append_cases, place_append}
use Rattle.times.proofs.PlanSteps.{own_action, needs_at_lem, held_since}
use Rattle.regression.proofs.Gathered.{in_cond_parts}
use Rattle.landmarks.specs.Landmarks.{Landmarks, marks_of}

-- a landmark of a set is one of some fact of it
pub mark_of : (marks : ℕ → ℕ) (n set p : ℕ) → has (marks_of marks n set) p ≡ true
    → (q : ℕ) × (q < n) × (has set q ≡ true) × (has (marks q) p ≡ true)
unfolding marks_of
mark_of marks zero set p h = not_both h (has_zero p)
mark_of marks (suc n) set p h =
    ⊎_elim (λ e. let c = in_cond_parts (has set n) (marks n) p e in (n, omega arith, c.0, c.1))
    (λ e. let r = mark_of marks n set p e in let l = r.1 in (r.0, omega arith, r.2, r.3))
    (in_union_cases _ (marks_of marks n set) p h)

-- a step of E that stops by t adds p
pub record AddedIn (E : List Step) (t p : ℕ) : Type 0 where
  pub by : Step
  pub rest : List Step
  pub place : Place by rest E
  pub stops : by.stop ≤ t
  pub adds : has by.action.adds p ≡ true

-- all that holds at minute b, and what the steps L add between b and t, is at hand
pub record AtHand (J : Job) (b t at_hand : ℕ) (E L : List Step) : Type 0 where
  pub begun : Subset (held J.start (E ++ L) b) at_hand
  pub given : EachStep (λ x. b < x.stop → x.stop ≤ t → Subset x.action.adds at_hand) L

module _ (J : Job) (b t at_hand goal T : ℕ) (E L : List Step) (plan : PlanOf J T goal (E ++ L))
    (stop : EachStep (λ x. (b ≤ x.start) × (x.start < x.stop)) E) (base : AtHand J b t at_hand E L) where
  -- a fact that is not at hand was added by a step of E
  added_by_new : (m q : ℕ) → b ≤ m → m ≤ t → has (held J.start (E ++ L) m) q ≡ true → has at_hand q ≡ false
      → (x : Step) × (R : List Step) × Place x R E × (x.stop ≤ m) × (has x.action.adds q ≡ true)
  added_by_new m q after early holds fresh =
      ⊎_elim (λ h. not_both (base.begun q h) fresh)
      (λ r.
      let added = r.3 in
      let stops = added.stops in
      let l = r.1 in
      let k = r.2 in
      ⊎_elim (λ w. (added.by, w.0, w.1, omega arith, added.adds))
      (λ w. not_both (base.given added.by w.0 w.1 (omega arith) (omega arith) q added.adds) fresh)
      (append_cases E L added.place))
      (held_since J.start (E ++ L) q m b after holds)

  module _ (n : ℕ) (marks : ℕ → ℕ) (landmarks : Landmarks J at_hand n marks) where
    -- by the minute, with one more than it as the falling number
    landmark_by : (fuel m : ℕ) → m < fuel → (q p : ℕ) → q < n → b ≤ m → m ≤ t
        → has (held J.start (E ++ L) m) q ≡ true → has (marks q) p ≡ true → AddedIn E t p × (has at_hand p ≡ false)
    landmark_by zero m l q p below after early holds mark = absurd (omega arith)
    landmark_by (suc fuel) m l q p below after early holds mark =
        let fresh = landmarks.fresh q p below mark in
        let a = added_by_new m q after early holds fresh in
        let x : Step = a.0 in
        let in_plan = place_append L a.2 in
        let until = stop x a.1 a.2 in
        let begins = until.0 in
        let lasts = until.1 in
        let stops = a.3 in
        let own = own_action J T goal (E ++ L) plan in_plan in
        ⊎_elim
        (λ same. (
          record {
            by = x;
            rest = a.1;
            place = a.2;
            stops = omega arith;
            adds = ap (has x.action.adds) same ∙ a.4;
          },
          ap (has at_hand) same ∙ fresh,
        ))
        (λ each.
        let need = each x.number (plan.known x _ in_plan) (rw own at a.4) in
        landmark_by fuel x.start (omega arith) need.0 p need.1 begins (omega arith)
        (needs_at_lem J T goal (E ++ L) plan in_plan x.start (omega arith) lasts need.0 need.2) need.3)
        (landmarks.why q p below mark)

    pub landmark_added : (q p : ℕ) → q < n → b ≤ t → has (held J.start (E ++ L) t) q ≡ true
        → has (marks q) p ≡ true → AddedIn E t p × (has at_hand p ≡ false)
    landmark_added q p below after holds mark =
        landmark_by (suc t) t (omega arith) q p below after (omega arith) holds mark

    -- of all facts of a set
    pub landmarks_added : (set : ℕ) → b ≤ t → Subset set (held J.start (E ++ L) t) → (p : ℕ)
        → has (marks_of marks n set) p ≡ true → AddedIn E t p × (has at_hand p ≡ false)
    landmarks_added set after holds p h =
        let m = mark_of marks n set p h in
        landmark_added m.0 p m.1 after (holds m.0 m.2) m.3
