-- A step that adds no critical fact can be dropped.
-- Assumes nothing.
use Prim.Native.Nat.{ℕ, suc, ◌-◌, pred}
use mathlib.Core.Path.{◌≡◌, refl, ap, ◌∙◌}
use mathlib.Core.Bool.{true, false, not, ◌&&◌}
use mathlib.Core.Logic.{inl, inr, ⊎_elim}
use mathlib.Core.List.{List}
use native.Mathlib.Omega.{arith}
use lib.Dec.{eqb}
use borrow.Author.Tests.{eqb-true, eqb-false, not-true}
use Rattle.lists.proofs.Bools.{and_left, and_right}
use Rattle.facts.specs.FactSet.{has, difference}
use Rattle.facts.proofs.SetLaws.{in_difference, not_in_both}
use Rattle.job.specs.Job.{Job}
use Rattle.timeline.specs.Step.{Step, union_of}
use Rattle.timeline.specs.Timeline.{held}
use Rattle.timeline.specs.Places.{Place, EachStep}
use Rattle.timeline.specs.Keeps.{Keeps}
use Rattle.timeline.proofs.Tests.{decided, le_or_lt}
use Rattle.timeline.proofs.Places.{place_wider, split_place}
use Rattle.timeline.proofs.HeldFacts.{Added}
use Rattle.timeline.proofs.Drop.{WantedBefore, NothingCritical, drop_without_critical_fact}
use Rattle.regression.specs.Wanted.{wanted_at}
use Rattle.regression.specs.Normal.{added_beside, added_alone, critical}
use Rattle.regression.proofs.Gathered.{in_cond_parts, in_union_of_from}
use Rattle.regression.proofs.WantedFacts.{wanted_at_horizon, wanted_when_needed, wanted_when_not_added}
use Rattle.regression.proofs.WantedFacts.{wanted_from_stop_on}

-- what a step of P adds beside x, a step of the rest adds
added_beside_lem : {x : Step} {Q P : List Step} → Place x Q P → (t n : ℕ) → x.stop ≡ t
    → has (union_of (added_beside x) P) n ≡ true → Added Q t n
added_beside_lem {x} {Q} {P} i t n e h =
    let r = in_union_of_from (added_beside x) n P h in
    let y = r.0 in
    let together = eqb y.stop x.stop in
    let w = in_cond_parts (together && not (eqb y.number x.number)) y.action.adds n r.3 in
    let stops = eqb-true y.stop x.stop (and_left together _ w.0) in
    let other = eqb-false y.number x.number (not-true _ (and_right together _ w.0)) in
    ⊎_elim (λ q. absurd (other (ap (λ (z : Step). z.number) q)))
    (λ m. record { by = y; rest = m.0; place = m.1; stops = stops ∙ e; adds = w.1 })
    (split_place i r.2)

module _ (J : Job) (goal T : ℕ) {x : Step} {Q P : List Step} (i : Place x Q P) (keeps : Keeps J T goal P)
    (none : critical J goal T P x ≡ false) where
  -- what the rest wants
  abbrev Wanted : ℕ → ℕ → Type 0
  Wanted t n = has (wanted_at goal Q T t) n ≡ true

  wanted_before : WantedBefore Q Wanted
  wanted_before t n w not_added =
      ⊎_elim (λ l. let e : T - t ≡ T - suc t = omega arith in rw e w)
      (λ l. wanted_when_not_added goal Q T t n l w not_added)
      (le_or_lt T t)

  nothing_critical : NothingCritical J.start x Q P Wanted
  unfolding critical
  nothing_critical t n e w a =
      let before = held J.start P (pred x.stop) in
      ⊎_elim (λ h. inr h)
      (λ h.
      ⊎_elim (λ b. inl (added_beside_lem i (suc t) n e b))
      (λ b.
      let unheld : has before n ≡ false = ap (λ (m : ℕ). has (held J.start P (pred m)) n) e ∙ h in
      let alone : has (added_alone J.start P x) n ≡ true
      = in_difference (difference x.action.adds before) (union_of (added_beside x) P) n
      (in_difference x.action.adds before n a unheld) b in
      let same = wanted_from_stop_on goal T i (keeps.lasting x Q i) x.stop (omega arith) (keeps.in_time x Q i) in
      let now : has (wanted_at goal Q T x.stop) n ≡ true = rw (← e) at w in
      absurd (not_in_both (added_alone J.start P x) (wanted_at goal P T x.stop) n none alone (rw same now)))
      (decided (has (union_of (added_beside x) P) n)))
      (decided (has (held J.start P t) n))

  pub drop_when_nothing_critical : Keeps J T goal Q
  drop_when_nothing_critical =
      drop_without_critical_fact J T goal i keeps Wanted
      (record {
        before = wanted_before;
        needs = λ y R j n h.
            let w = place_wider i j in
            let l = keeps.lasting y w.0 w.1 in
            let m = keeps.in_time y w.0 w.1 in
            wanted_when_needed goal Q T y.start n (omega arith)
            (record { by = y; rest = R; place = j; starts = refl; needs = h });
        goals = λ n g. rw (wanted_at_horizon goal Q T) g;
      })
      nothing_critical

-- in a plan from which no single step can be dropped, each step adds a critical fact
pub critical_when_none_can_be_dropped : (J : Job) (goal T : ℕ) (P : List Step) → Keeps J T goal P
    → ((x : Step) (Q : List Step) → Place x Q P → Keeps J T goal Q → ⊥)
    → EachStep (λ x. critical J goal T P x ≡ true) P
critical_when_none_can_be_dropped J goal T P keeps none x Q i =
    ⊎_elim (λ e. e) (λ e. absurd (none x Q i (drop_when_nothing_critical J goal T i keeps e)))
    (decided (critical J goal T P x))
