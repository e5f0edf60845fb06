-- Every step of a plan from which none can be dropped adds a fact that does not hold where the step starts, that no other
-- step adds while it runs, and that is of use in time: its tail is over by the horizon.
-- Assumes nothing.
use Prim.Native.Nat.{ℕ, zero, suc, ◌+◌, ◌-◌, ◌<◌, ◌≤◌, pred}
use mathlib.Core.Path.{◌≡◌, refl, sym, ap, ◌∙◌, subst}
use mathlib.Core.Bool.{true, false, not, ◌&&◌}
use mathlib.Core.Logic.{◌⊎◌, inl, inr, ⊎_elim}
use mathlib.Core.List.{List}
use native.Mathlib.Nat.{eq-or-lt_of_le}
use native.Mathlib.Omega.{arith}
use lib.Dec.{eqb}
use borrow.Author.Tests.{eq-eqb, ne_eqb}
use Rattle.facts.specs.FactSet.{has, difference}
use Rattle.facts.proofs.Membership.{meets_some}
use Rattle.facts.proofs.SetLaws.{in_difference_parts}
use Rattle.job.specs.Job.{Action, Job}
use Rattle.timeline.specs.Step.{Step, union_of}
use Rattle.timeline.specs.Timeline.{held}
use Rattle.timeline.specs.Places.{Place, EachStep}
use Rattle.timeline.specs.Keeps.{Keeps, PlanOf}
use Rattle.timeline.proofs.Tests.{not_both, false_unless, and_both}
use Rattle.timeline.proofs.Places.{split_place}
use Rattle.timeline.proofs.HeldFacts.{held_when_added, held_when_kept}
use Rattle.timeline.proofs.Clashes.{no_clash_of_test}
use Rattle.times.proofs.PlanSteps.{own_action, own_stop}
use Rattle.regression.specs.Wanted.{wanted_at}
use Rattle.regression.specs.Normal.{added_beside, added_alone, critical}
use Rattle.regression.proofs.Gathered.{in_cond, in_union_of}
use Rattle.regression.proofs.WantedFacts.{Needed, wanted_at_horizon, wanted_comes_from}
use Rattle.listing.specs.Tails.{Tails}
use Rattle.listing.proofs.CriticalExactly.{AllCritical}

-- a critical fact is added by the step alone, did not hold a minute before its stop, and is wanted then
critical_fact : (J : Job) (goal T : ℕ) (P : List Step) (x : Step) (t : ℕ) → x.stop ≡ suc t
    → critical J goal T P x ≡ true
    → (n : ℕ) × (has x.action.adds n ≡ true) × (has (held J.start P t) n ≡ false)
    × (has (wanted_at goal P T x.stop) n ≡ true) × (has (union_of (added_beside x) P) n ≡ false)
unfolding critical
critical_fact J goal T P x t e c =
    let before = held J.start P (pred x.stop) in
    let found = meets_some (added_alone J.start P x) (wanted_at goal P T x.stop) c in
    let n : ℕ = found.0 in
    let one = in_difference_parts (difference x.action.adds before) (union_of (added_beside x) P) n found.1 in
    let two = in_difference_parts x.action.adds before n one.0 in
    (n, two.0, ap (λ (m : ℕ). has (held J.start P (pred m)) n) (sym e) ∙ two.1, found.2, one.1)

-- what a step adds, once it holds while the step runs, holds on up to its stop: nothing that shares a minute with it
-- deletes it
held_while_running : (J : Job) (goal T : ℕ) {y : Step} {Q P : List Step} → Place y Q P → Keeps J T goal P → (n : ℕ)
    → has y.action.adds n ≡ true → (from : ℕ) → y.start ≤ from → has (held J.start P from) n ≡ true
    → (k t : ℕ) → k + from ≡ t → t < y.stop → has (held J.start P t) n ≡ true
held_while_running J goal T {y} {Q} {P} i keeps n adds from l holds zero t e b =
    let z : from ≡ t = omega arith in
    subst (λ (m : ℕ). has (held J.start P m) n ≡ true) z holds
held_while_running J goal T i keeps n adds from l holds (suc k) zero e b = absurd (omega arith)
held_while_running J goal T {y} {Q} {P} i keeps n adds from l holds (suc k) (suc t) e b =
    held_when_kept J.start P t n
    (held_while_running J goal T i keeps n adds from l holds k t (omega arith) (omega arith))
    (λ z R j stops d.
    ⊎_elim
    (λ e. let s : z.stop ≡ y.stop = ap (λ (x : Step). x.stop) e in omega arith)
    (λ r.
    let lasts = keeps.lasting z R j in
    (no_clash_of_test P keeps.no_clash y Q i z r.0 r.1 (omega arith) (omega arith)).spared.adds n d adds)
    (split_place i j))

-- a fact that y adds alone, and that did not hold a minute before y's stop, no step of another action adds while y runs
not_added_while_running : (J : Job) (goal T : ℕ) {y : Step} {Q P : List Step} → Place y Q P → Keeps J T goal P
    → (s : ℕ) → y.stop ≡ suc s → (n : ℕ) → has y.action.adds n ≡ true → has (held J.start P s) n ≡ false
    → has (union_of (added_beside y) P) n ≡ false
    → EachStep (λ z. (z.number ≡ y.number → ⊥) → y.start < z.stop → z.stop ≤ y.stop
    → has z.action.adds n ≡ false) P
not_added_while_running J goal T {y} {Q} {P} i keeps s e n adds new alone z R j other after by =
    false_unless (has z.action.adds n)
    (λ added.
    ⊎_elim
    (λ same.
    not_both
    (in_union_of (added_beside y) n j
    (in_cond (eqb z.stop y.stop && not (eqb z.number y.number)) z.action.adds n
    (and_both (eq-eqb z.stop y.stop same) (ap not (ne_eqb z.number y.number other)))
    added))
    alone)
    (λ before. go z.stop refl before added)
    (eq-or-lt_of_le by))
  where
    go : (u : ℕ) → z.stop ≡ u → z.stop < y.stop → has z.action.adds n ≡ true → ⊥
    go zero q before added = omega arith
    go (suc u) q before added =
        not_both
        (held_while_running J goal T i keeps n adds (suc u) (omega arith)
        (held_when_added J.start P u n (record { by = z; rest = R; place = j; stops = q; adds = added }))
        (s - suc u) s (omega arith) (omega arith))
        new

-- what is wanted at a minute is of the goal, or a step that starts then or later needs it
wanted_for : (goal T : ℕ) (P : List Step) (k t n : ℕ) → k + t ≡ T → has (wanted_at goal P T t) n ≡ true
    → (has goal n ≡ true) ⊎ ((r : ℕ) × (t ≤ r) × Needed P r n)
wanted_for goal T P zero t n e h =
    let z : t ≡ T = omega arith in
    let g : has (wanted_at goal P T T) n ≡ true = rw z at h in
    inl (rw (wanted_at_horizon goal P T) at g)
wanted_for goal T P (suc k) t n e h =
    ⊎_elim (λ needed. inr (t, omega arith, needed))
    (λ later.
    ⊎_elim inl
    (λ r. let l = r.1 in inr (r.0, omega arith, r.2))
    (wanted_for goal T P k (suc t) n (omega arith) later.0))
    (wanted_comes_from goal P T t n (omega arith) h)

module _ (J : Job) (goal T : ℕ) (P : List Step) (plan : PlanOf J T goal P) (all : AllCritical J goal T P)
    (tail : ℕ → ℕ) (tails : Tails J goal tail) where
  -- y adds a fact that does not hold where y starts and is of use in time, and that no step of another action adds while
  -- y runs
  pub record InTime (y : Step) : Type 0 where
    pub fact : ℕ
    pub adds : has y.action.adds fact ≡ true
    pub new : has (held J.start P y.start) fact ≡ false
    pub soon : y.stop + tail fact ≤ T
    pub alone : EachStep (λ z. (z.number ≡ y.number → ⊥) → y.start < z.stop → z.stop ≤ y.stop
        → has z.action.adds fact ≡ false) P

  -- the use of a critical fact: the goal, or a step that stops later and is in time itself
  in_time_if_later_are : {y : Step} {Q : List Step} → Place y Q P
      → ((z : Step) (R : List Step) → Place z R P → y.stop < z.stop → InTime z) → InTime y
  in_time_if_later_are {y} {Q} i later = go y.stop refl
    where
      go : (s : ℕ) → y.stop ≡ s → InTime y
      go zero e = let lasts = plan.keeps.lasting y Q i in absurd (omega arith)
      go (suc s) e =
          let lasts = plan.keeps.lasting y Q i in
          let soon = plan.keeps.in_time y Q i in
          let f = critical_fact J goal T P y s e (all y Q i) in
          let new = false_unless (has (held J.start P y.start) f.0)
          (λ holds.
          not_both
          (held_while_running J goal T i plan.keeps f.0 f.1 y.start (omega arith) holds (s - y.start) s
          (omega arith) (omega arith))
          f.2) in
          let alone = not_added_while_running J goal T i plan.keeps s e f.0 f.1 f.2 f.4 in
          let soon_when : y.stop + tail f.0 ≤ T → InTime y
          = λ soon. record { fact = f.0; adds = f.1; new = new; soon = soon; alone = alone } in
          ⊎_elim
          (λ g. let none = tails.of_goal f.0 g in soon_when (omega arith))
          (λ u.
          let z : Step = u.2.by in
          let after = u.1 in
          let starts = u.2.starts in
          let j = u.2.place in
          let longer = plan.keeps.lasting z u.2.rest j in
          let stops = own_stop J T goal P plan j in
          let own = own_action J T goal P plan j in
          let then = later z u.2.rest j (omega arith) in
          let used = then.soon in
          let least = tails.of_needs z.number f.0 then.fact (plan.known z u.2.rest j)
          (subst (λ (a : Action). has a.needs f.0 ≡ true) own u.2.needs)
          (subst (λ (a : Action). has a.adds then.fact ≡ true) own then.adds) in
          soon_when (omega arith))
          (wanted_for goal T P (T - y.stop) y.stop f.0 (omega arith) f.3)

  in_time_lem : (fuel : ℕ) (y : Step) (Q : List Step) → Place y Q P → T - y.stop < fuel → InTime y
  in_time_lem zero y Q i l = absurd (omega arith)
  in_time_lem (suc fuel) y Q i l =
      in_time_if_later_are i
      (λ z R j after. let by = plan.keeps.in_time z R j in in_time_lem fuel z R j (omega arith))

  pub critical_in_time : {y : Step} {Q : List Step} → Place y Q P → InTime y
  critical_in_time {y} {Q} i = in_time_lem (suc (T - y.stop)) y Q i (omega arith)
