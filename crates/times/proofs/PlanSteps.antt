-- The steps of a plan of the job's own steps, by the job's actions: their needs, their pools, and two that overlap.
-- Assumes nothing.
use Prim.Native.Nat.{ℕ, zero, suc, ◌+◌, ◌<◌, ◌≤◌}
use mathlib.Core.Path.{◌≡◌, sym, ap, ◌∙◌}
use mathlib.Core.Bool.{true, false, not}
use mathlib.Core.Logic.{◌⊎◌, inl, inr, ⊎_elim}
use mathlib.Core.List.{List}
use native.Mathlib.Nat.{eq-or-lt_of_le}
use native.Mathlib.Omega.{arith}
use lib.Dec.{eqb}
use lib.ListN.{length, get_or}
use borrow.Author.Tests.{le-ltb}
use Rattle.lists.proofs.Below.{none_below}
use Rattle.lists.proofs.Bools.{or_left, or_right}
use Rattle.facts.specs.FactSet.{has, Subset}
use Rattle.job.specs.Job.{Action, Job}
use Rattle.job.specs.Passed.{Passed}
use Rattle.timeline.specs.Step.{Step, steps_in}
use Rattle.timeline.specs.Timeline.{hinders, held, end}
use Rattle.timeline.specs.Accepted.{Accepted}
use Rattle.timeline.specs.Places.{Place}
use Rattle.timeline.specs.Keeps.{PlanOf}
use Rattle.timeline.proofs.Places.{place_wider}
use Rattle.timeline.proofs.HeldFacts.{Added, held_comes_from}
use Rattle.timeline.proofs.Clashes.{compatible_no_clash, no_clash_of_test}
use Rattle.timeline.proofs.Shares.{use_at, share_when, use_of_share, in_use_place}
use Rattle.timeline.proofs.AcceptedSteps.{accepted_steps}
use Rattle.timeline.proofs.Persist.{keeps_needs_hold}
use Rattle.timeline.proofs.JobSteps.{steps_in_bytes, steps_of_accepted, keeps_of_bytes}
use Rattle.times.specs.Earliest.{action_of, fits_alone, fit_together}

-- an accepted plan is one; with no goal, 0, a plan that keeps all rules but that of the goal
pub plan_of_accepted : (J : Job) (goal : ℕ) (bytes : List ℕ) (horizon : ℕ) → Passed J → Accepted J goal bytes
    → end (steps_in J bytes) ≤ horizon → PlanOf J horizon goal (steps_in J bytes)
plan_of_accepted J goal bytes horizon passed accepted l =
    record {
      keeps = keeps_of_bytes J goal bytes horizon passed accepted l;
      own = steps_in_bytes J bytes;
      known = (accepted_steps J goal (steps_in J bytes) (steps_of_accepted J goal bytes accepted)).known;
    }

-- two steps of different actions, which do not clash and are within the pools together
pub record Paired (J : Job) (x y : Step) : Type 0 where
  pub different : x.number ≡ y.number → ⊥
  pub spares : hinders (action_of J x.number) (action_of J y.number) ≡ false
  pub spared : hinders (action_of J y.number) (action_of J x.number) ≡ false
  pub fits : fit_together J (action_of J x.number) (action_of J y.number) ≡ true
  pub fits_too : fit_together J (action_of J y.number) (action_of J x.number) ≡ true

pub paired_swap : (J : Job) (x y : Step) → Paired J x y → Paired J y x
paired_swap J x y c =
    record {
      different = λ e. c.different (sym e);
      spares = c.spared;
      spared = c.spares;
      fits = c.fits_too;
      fits_too = c.fits;
    }

module _ (J : Job) (horizon goal : ℕ) (P : List Step) (plan : PlanOf J horizon goal P) where
  pub own_action : {x : Step} {Q : List Step} → Place x Q P → x.action ≡ action_of J x.number
  own_action {x} {Q} i = ap (λ (y : Step). y.action) (plan.own x Q i)

  pub own_stop : {x : Step} {Q : List Step} → Place x Q P → x.stop ≡ x.start + (action_of J x.number).duration
  own_stop {x} {Q} i = ap (λ (y : Step). y.stop) (plan.own x Q i)

  pub needs_at_lem : {x : Step} {Q : List Step} → Place x Q P → (t : ℕ) → x.start ≤ t → t < x.stop
      → Subset (action_of J x.number).needs (held J.start P t)
  needs_at_lem {x} {Q} i t a b n h =
      keeps_needs_hold J horizon goal P plan.keeps x Q i t a b n
      (ap (λ (c : Action). has c.needs n) (own_action i) ∙ h)

  use_in : {x : Step} {Q : List Step} → Place x Q P → (k t : ℕ) → x.start ≤ t → t < x.stop
      → use_at J k t x ≡ get_or (action_of J x.number).pools k 0
  use_in {x} i k t a b =
      use_of_share J k t x (share_when J k t x a (omega arith))
      ∙ ap (λ (c : Action). get_or c.pools k 0) (own_action i)

  pub fits_alone_lem : {x : Step} {Q : List Step} → Place x Q P → fits_alone J (action_of J x.number) ≡ true
  fits_alone_lem {x} {Q} i =
      ap not
      (none_below (length J.pools) _
      (λ k l.
      let within = plan.keeps.pools k x.start l in
      let uses = in_use_place J k x.start i in
      let lasts = plan.keeps.lasting x Q i in
      let own = use_in i k x.start (omega arith) (omega arith) in
      le-ltb (get_or J.pools k 0) (get_or (action_of J x.number).pools k 0) (omega arith)))

  -- two steps that share minute t use no more together than each pool has
  shared : {x y : Step} {Q R : List Step} → Place x Q P → Place y R Q → (t : ℕ) → x.start ≤ t → t < x.stop
      → y.start ≤ t → t < y.stop → (k : ℕ) → k < length J.pools
      → get_or (action_of J x.number).pools k 0 + get_or (action_of J y.number).pools k 0 ≤ get_or J.pools k 0
  shared {x} {y} i j t a b c d k l =
      let within = plan.keeps.pools k t l in
      let uses = in_use_place J k t i in
      let others = in_use_place J k t j in
      let first = use_in i k t a b in
      let second = use_in (place_wider i j).1 k t c d in
      omega arith

  pub paired_when_shared : {x y : Step} {Q R : List Step} → Place x Q P → Place y R Q → (t : ℕ) → x.start ≤ t
      → t < x.stop → y.start ≤ t → t < y.stop → Paired J x y
  paired_when_shared {x} {y} {Q} {R} i j t a b c d =
      let able = no_clash_of_test P plan.keeps.no_clash x Q i y R j (omega arith) (omega arith) in
      let none = or_right (eqb x.number y.number) _ (compatible_no_clash x y able) in
      let first = own_action i in
      let second = own_action (place_wider i j).1 in
      record {
        different = able.different;
        spares = rw (first, second) at (or_left (hinders x.action y.action) _ none);
        spared = rw (first, second) at (or_right (hinders x.action y.action) _ none);
        fits = ap not
            (none_below (length J.pools) _
            (λ k l. let s = shared i j t a b c d k l in le-ltb _ _ s));
        fits_too = ap not
            (none_below (length J.pools) _
            (λ k l. let s = shared i j t a b c d k l in le-ltb (get_or J.pools k 0) _ (omega arith)));
      }

-- a fact that holds at t held already at m, or was added in between
pub held_since : (S : ℕ) (P : List Step) (n t m : ℕ) → m ≤ t → has (held S P t) n ≡ true
    → (has (held S P m) n ≡ true) ⊎ ((e : ℕ) × (m < e) × (e ≤ t) × Added P e n)
held_since S P n zero m l h = inl (let z : m ≡ 0 = omega arith in rw z h)
held_since S P n (suc t) m l h =
    ⊎_elim (λ e. inl (rw e h))
    (λ b.
    ⊎_elim (λ g. inr (suc t, b, omega arith, g))
    (λ c.
    ⊎_elim (λ r. inl r) (λ r. let y = r.2 in inr (r.0, r.1, omega arith, r.3))
    (held_since S P n t m (omega arith) c.0))
    (held_comes_from S P t n h))
    (eq-or-lt_of_le l)
