-- The facts that are wanted at a minute: needed then, or wanted a minute later and not added; and they hold then.
-- Assumes nothing.
use Prim.Native.Nat.{ℕ, zero, suc, ◌+◌, ◌-◌, ◌<◌, ◌≤◌}
use mathlib.Core.Path.{◌≡◌, sym, ap, ap₂, ◌∙◌}
use mathlib.Core.Bool.{true}
use mathlib.Core.Logic.{◌⊎◌, inl, inr, ⊎_elim}
use mathlib.Core.List.{List}
use native.Mathlib.Omega.{arith}
use lib.Dec.{eqb}
use borrow.Author.Tests.{eqb-true, eq-eqb, ne_eqb}
use Rattle.facts.specs.FactSet.{has, union, difference, Subset}
use Rattle.facts.proofs.SetLaws.{in_union_left, in_union_right, in_union_cases, in_difference, in_difference_parts}
use Rattle.facts.proofs.SetLaws.{union_zero_left}
use Rattle.job.specs.Job.{Job}
use Rattle.timeline.specs.Step.{Step}
use Rattle.timeline.specs.Timeline.{if_stops, added_at, held}
use Rattle.timeline.specs.Places.{Place}
use Rattle.timeline.specs.Keeps.{Keeps}
use Rattle.timeline.proofs.Tests.{not_both, false_unless}
use Rattle.timeline.proofs.Places.{union_of_place}
use Rattle.timeline.proofs.HeldFacts.{Added, held_comes_from}
use Rattle.regression.specs.Wanted.{if_starts, needed_at, wanted, wanted_at}
use Rattle.regression.proofs.Gathered.{in_cond, in_cond_parts, in_union_of, in_union_of_from}

-- a step of P starts at minute t and needs fact n
pub record Needed (P : List Step) (t n : ℕ) : Type 0 where
  pub by : Step
  pub rest : List Step
  pub place : Place by rest P
  pub starts : by.start ≡ t
  pub needs : has by.action.needs n ≡ true

module _ (P : List Step) (t n : ℕ) where
  pub in_needed : Needed P t n → has (needed_at t P) n ≡ true
  in_needed d =
      in_union_of (λ x. if_starts t x.action.needs x) n d.place
      (in_cond (eqb d.by.start t) d.by.action.needs n (eq-eqb d.by.start t d.starts) d.needs)

  pub needed_from : has (needed_at t P) n ≡ true → Needed P t n
  needed_from h =
      let r = in_union_of_from (λ x. if_starts t x.action.needs x) n P h in
      let w = in_cond_parts (eqb r.0.start t) r.0.action.needs n r.3 in
      record { by = r.0; rest = r.1; place = r.2; starts = eqb-true r.0.start t w.0; needs = w.1 }

  in_added : Added P t n → has (added_at t P) n ≡ true
  in_added a =
      in_union_of (λ x. if_stops t x.action.adds x) n a.place
      (in_cond (eqb a.by.stop t) a.by.action.adds n (eq-eqb a.by.stop t a.stops) a.adds)

  added_from : has (added_at t P) n ≡ true → Added P t n
  added_from h =
      let r = in_union_of_from (λ x. if_stops t x.action.adds x) n P h in
      let w = in_cond_parts (eqb r.0.stop t) r.0.action.adds n r.3 in
      record { by = r.0; rest = r.1; place = r.2; stops = eqb-true r.0.stop t w.0; adds = w.1 }

-- ---- from the horizon back, minute by minute
module _ (goal : ℕ) (P : List Step) (T : ℕ) where
  pub wanted_at_horizon : wanted_at goal P T T ≡ goal
  unfolding wanted
  wanted_at_horizon = let e : T - T ≡ 0 = omega arith in ap (wanted goal P T) e

  pub wanted_a_minute_before : (t : ℕ) → t < T
      → wanted_at goal P T t ≡ union (difference (wanted_at goal P T (suc t)) (added_at (suc t) P)) (needed_at t P)
  unfolding wanted
  wanted_a_minute_before t l =
      let e : T - t ≡ suc (T - suc t) = omega arith in
      let stops : T - (T - suc t) ≡ suc t = omega arith in
      let starts : T - suc (T - suc t) ≡ t = omega arith in
      ap (wanted goal P T) e
      ∙ ap₂ (λ (m u : ℕ). union (difference (wanted_at goal P T (suc t)) (added_at m P)) (needed_at u P)) stops starts

  module _ (t n : ℕ) (l : t < T) where
    pub wanted_when_needed : Needed P t n → has (wanted_at goal P T t) n ≡ true
    wanted_when_needed d =
        rw (wanted_a_minute_before t l) (in_union_right _ (needed_at t P) n (in_needed P t n d))

    pub wanted_when_not_added : has (wanted_at goal P T (suc t)) n ≡ true → (Added P (suc t) n → ⊥)
        → has (wanted_at goal P T t) n ≡ true
    wanted_when_not_added h none =
        rw (wanted_a_minute_before t l)
        (in_union_left _ (needed_at t P) n
        (in_difference (wanted_at goal P T (suc t)) (added_at (suc t) P) n h
        (false_unless _ (λ a. none (added_from P (suc t) n a)))))

    pub wanted_comes_from : has (wanted_at goal P T t) n ≡ true
        → Needed P t n ⊎ ((has (wanted_at goal P T (suc t)) n ≡ true) × (Added P (suc t) n → ⊥))
    wanted_comes_from h =
        let later = wanted_at goal P T (suc t) in
        let both = sym (ap (λ (set : ℕ). has set n) (wanted_a_minute_before t l)) ∙ h in
        ⊎_elim
        (λ e.
        let parts = in_difference_parts later (added_at (suc t) P) n e in
        inr (parts.0, λ a. not_both (in_added P (suc t) n a) parts.1))
        (λ e. inl (needed_from P t n e))
        (in_union_cases (difference later (added_at (suc t) P)) (needed_at t P) n both)

-- ---- a step changes nothing that is wanted at its stop or later
module _ (goal T : ℕ) {x : Step} {Q P : List Step} (i : Place x Q P) (lasts : x.start < x.stop) where
  not_added : (t : ℕ) → (x.stop ≡ t → ⊥) → added_at t P ≡ added_at t Q
  not_added t d =
      union_of_place (λ y. if_stops t y.action.adds y) i
      ∙ rw (ne_eqb x.stop t d) (union_zero_left (added_at t Q))

  not_needed : (t : ℕ) → (x.start ≡ t → ⊥) → needed_at t P ≡ needed_at t Q
  not_needed t d =
      union_of_place (λ y. if_starts t y.action.needs y) i
      ∙ rw (ne_eqb x.start t d) (union_zero_left (needed_at t Q))

  pub wanted_from_stop_on : (t : ℕ) → x.stop ≤ t → t ≤ T → wanted_at goal P T t ≡ wanted_at goal Q T t
  wanted_from_stop_on t after l = go (T - t) t (omega arith) after
    where
      go : (k t : ℕ) → k + t ≡ T → x.stop ≤ t → wanted_at goal P T t ≡ wanted_at goal Q T t
      go zero t e a =
          let z : t ≡ T = omega arith in
          rw z (wanted_at_horizon goal P T ∙ sym (wanted_at_horizon goal Q T))
      go (suc k) t e a =
          wanted_a_minute_before goal P T t (omega arith)
          ∙ ap₂ union
          (ap₂ difference (go k (suc t) (omega arith) (omega arith)) (not_added (suc t) (λ s. omega arith)))
          (not_needed t (λ s. omega arith))
          ∙ sym (wanted_a_minute_before goal Q T t (omega arith))

-- ---- what is wanted holds
pub wanted_holds : (J : Job) (T goal : ℕ) (P : List Step) → Keeps J T goal P → (t : ℕ) → t ≤ T
    → Subset (wanted_at goal P T t) (held J.start P t)
wanted_holds J T goal P keeps t l = go (T - t) t (omega arith)
  where
    go : (k t : ℕ) → k + t ≡ T → Subset (wanted_at goal P T t) (held J.start P t)
    go zero t e n h =
        let z : t ≡ T = omega arith in
        let g : has (wanted_at goal P T T) n ≡ true = rw z at h in
        rw z (keeps.goal_holds n (rw (wanted_at_horizon goal P T) at g))
    go (suc k) t e n h =
        ⊎_elim
        (λ d. rw (← d.starts) (keeps.needs_hold d.by d.rest d.place n d.needs))
        (λ c.
        ⊎_elim (λ a. absurd (c.1 a)) (λ kept. kept.0)
        (held_comes_from J.start P t n (go k (suc t) (omega arith) n c.0)))
        (wanted_comes_from goal P T t n (omega arith) h)
