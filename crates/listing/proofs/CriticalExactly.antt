-- From a plan no single step can be dropped exactly if each of its steps adds a critical fact.
-- Assumes nothing.
use Prim.Native.Nat.{ℕ, zero, suc, ◌<◌, pred}
use mathlib.Core.Path.{◌≡◌, refl, sym, ap, ◌∙◌}
use mathlib.Core.Bool.{true, false, not, ◌&&◌}
use mathlib.Core.Logic.{⊎_elim}
use mathlib.Core.List.{List}
use native.Mathlib.Omega.{arith}
use lib.Dec.{eqb}
use borrow.Author.Tests.{eq-eqb, ne_eqb}
use Rattle.timeline.specs.Places.{Place, EachStep}
use Rattle.timeline.specs.Keeps.{Keeps}
use Rattle.facts.specs.FactSet.{has, difference, Subset}
use Rattle.facts.proofs.Membership.{meets_some}
use Rattle.facts.proofs.SetLaws.{in_difference_parts}
use Rattle.job.specs.Job.{Job}
use Rattle.timeline.specs.Step.{Step, union_of}
use Rattle.timeline.specs.Timeline.{held}
use Rattle.timeline.proofs.Tests.{not_both, and_both}
use Rattle.timeline.proofs.Places.{place_wider}
use Rattle.timeline.proofs.HeldFacts.{Added, held_when_added, held_when_kept, held_comes_from}
use Rattle.timeline.proofs.HeldFacts.{added_wider, not_deleted_with}
use Rattle.timeline.proofs.Clashes.{no_clash_of_test}
use Rattle.regression.specs.Wanted.{wanted_at}
use Rattle.regression.specs.Normal.{added_beside, added_alone, critical}
use Rattle.regression.proofs.Gathered.{in_cond, in_union_of}
use Rattle.regression.proofs.WantedFacts.{wanted_from_stop_on, wanted_holds}
use Rattle.regression.proofs.CriticalFacts.{critical_when_none_can_be_dropped}

-- no single step can be dropped
abbrev pub NoneSpare : Job → ℕ → ℕ → List Step → Type 0
NoneSpare J goal T P = (x : Step) (Q : List Step) → Place x Q P → Keeps J T goal Q → ⊥

-- each step adds a critical fact
abbrev pub AllCritical : Job → ℕ → ℕ → List Step → Type 0
AllCritical J goal T P = EachStep (λ x. critical J goal T P x ≡ true) P

-- before a step stops, nothing holds without it that does not hold with it
pub held_without_before_stop : (S : ℕ) {x : Step} {Q P : List Step} → Place x Q P → (t : ℕ) → t < x.stop
    → Subset (held S Q t) (held S P t)
held_without_before_stop S i zero l n h = h
held_without_before_stop S {Q = Q} {P = P} i (suc t) l n h =
    ⊎_elim (λ a. held_when_added S P t n (added_wider i (suc t) n a))
    (λ c.
    held_when_kept S P t n (held_without_before_stop S i t (omega arith) n c.0)
    (not_deleted_with i (suc t) n c.1 (λ e d. omega arith)))
    (held_comes_from S Q t n h)

module _ (J : Job) (goal T : ℕ) {x : Step} {Q P : List Step} (i : Place x Q P) (keeps : Keeps J T goal P) where
  -- what the rest adds at x's stop, a step adds beside x
  added_by_rest : (n : ℕ) → Added Q x.stop n → has (union_of (added_beside x) P) n ≡ true
  added_by_rest n a =
      let w = place_wider i a.place in
      let y = a.by in
      let stops = a.stops in
      let l = keeps.lasting x Q i in
      let m = keeps.lasting y w.0 w.1 in
      let able = no_clash_of_test P keeps.no_clash x Q i y a.rest a.place (omega arith) (omega arith) in
      let other : not (eqb y.number x.number) ≡ true
      = ap not (ne_eqb y.number x.number (λ e. able.different (omega arith))) in
      in_union_of (added_beside x) n w.1
      (in_cond (eqb y.stop x.stop && not (eqb y.number x.number)) y.action.adds n
      (and_both (eq-eqb y.stop x.stop stops) other)
      a.adds)

  -- a fact that x adds alone does not hold at x's stop without x
  alone_not_held : (n : ℕ) → has (added_alone J.start P x) n ≡ true → has (held J.start Q x.stop) n ≡ true → ⊥
  alone_not_held n alone h = go x.stop refl h
    where
      go : (t : ℕ) → x.stop ≡ t → has (held J.start Q t) n ≡ true → ⊥
      go zero e h = let l = keeps.lasting x Q i in omega arith
      go (suc t) e h =
          let before = held J.start P (pred x.stop) in
          let one = in_difference_parts (difference x.action.adds before) (union_of (added_beside x) P) n alone in
          let two = in_difference_parts x.action.adds before n one.0 in
          ⊎_elim
          (λ a. not_both (added_by_rest n (rw (← e) at a)) one.1)
          (λ c.
          let unheld : has (held J.start P t) n ≡ false
          = ap (λ (m : ℕ). has (held J.start P (pred m)) n) (sym e) ∙ two.1 in
          not_both (held_without_before_stop J.start i t (omega arith) n c.0) unheld)
          (held_comes_from J.start Q t n h)

  pub not_dropped_when_critical : critical J goal T P x ≡ true → Keeps J T goal Q → ⊥
  unfolding critical
  not_dropped_when_critical c rest =
      let in_time = keeps.in_time x Q i in
      let found = meets_some (added_alone J.start P x) (wanted_at goal P T x.stop) c in
      let n : ℕ = found.0 in
      let same = wanted_from_stop_on goal T i (keeps.lasting x Q i) x.stop (omega arith) in_time in
      let wanted : has (wanted_at goal Q T x.stop) n
      ≡ true = sym (ap (λ (set : ℕ). has set n) same) ∙ found.2 in
      alone_not_held n found.1 (wanted_holds J T goal Q rest x.stop in_time n wanted)

-- no single step can be dropped exactly if each adds a critical fact
pub critical_exactly : (J : Job) (goal T : ℕ) (P : List Step) → Keeps J T goal P
    → (NoneSpare J goal T P → AllCritical J goal T P) × (AllCritical J goal T P → NoneSpare J goal T P)
critical_exactly J goal T P keeps = (
  critical_when_none_can_be_dropped J goal T P keeps,
  λ all x Q i rest. not_dropped_when_critical J goal T i keeps (all x Q i) rest,
)
