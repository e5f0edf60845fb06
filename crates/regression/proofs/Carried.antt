-- Carried facts: what is wanted at minute t, and added then neither by the tail nor by an action that may still stop,
-- held already at the event minute before; and so did what the steps that run in the minute before t need.
-- Assumes nothing.
use Prim.Native.Nat.{ℕ, zero, suc, ◌+◌, ◌<◌, ◌≤◌}
use mathlib.Core.Path.{◌≡◌, refl}
use mathlib.Core.Bool.{Bool, true, false}
use mathlib.Core.Logic.{◌⊎◌, inl, ⊎_elim}
use mathlib.Core.List.{List, ◌++◌}
use native.Mathlib.Omega.{arith}
use lib.ListN.{length}
use Rattle.lists.specs.Lists.{any}
use Rattle.facts.specs.FactSet.{has, Subset}
use Rattle.job.specs.Job.{Job}
use Rattle.timeline.specs.Step.{Step}
use Rattle.timeline.specs.From.{From}
use Rattle.timeline.specs.Timeline.{held}
use Rattle.timeline.specs.Places.{Place, EachStep}
use Rattle.timeline.proofs.Tests.{decided, not_both, le_or_lt}
use Rattle.timeline.proofs.Places.{append_cases, place_append, place_after, find_any}
use Rattle.timeline.proofs.Persist.{keeps_needs_hold}
use Rattle.times.specs.Earliest.{action_of}
use Rattle.times.proofs.PlanSteps.{own_action, own_stop}
use Rattle.regression.specs.Wanted.{wanted_at}
use Rattle.regression.specs.Normal.{touches_at}
use Rattle.regression.specs.DeadEnd.{NormalPlan, Open, Dead}
use Rattle.regression.proofs.WantedFacts.{wanted_holds}
use Rattle.regression.proofs.WantedBetween.{wanted_unless_added_between}
use Rattle.regression.proofs.BlockedSteps.{Touches, touches_reads, touches_not_before}
use Rattle.regression.proofs.BlockedSteps.{not_blocked_when_untouched}
use Rattle.regression.proofs.Tail.{tail_wants}
use Rattle.regression.proofs.DeadEnds.{Bounds}

-- s is an event minute before t: no step of the tail touches a minute between them, nor would an action that may still
-- stop at t
pub record EventBefore (J : Job) (t s : ℕ) (done : ℕ → Bool) (L : List Step) : Type 0 where
  pub earlier : s < t
  pub no_event : (m : ℕ) → s < m → m < t → EachStep (λ x. Touches J m x → ⊥) L
  pub open_starts : (a : ℕ) → a < length J.actions → done a ≡ false → t ≤ s + (action_of J a).duration

-- fact n is wanted at t, and added after s and by t neither by the tail nor by an action that may still stop
pub record WantedBefore (J : Job) (goal T t s : ℕ) (done : ℕ → Bool) (L : List Step) (n : ℕ) : Type 0 where
  pub wanted : has (wanted_at goal L T t) n ≡ true
  pub tail : EachStep (λ x. s < x.stop → x.stop ≤ t → has x.action.adds n ≡ false) L
  pub others : (a : ℕ) → a < length J.actions → done a ≡ false → has (action_of J a).adds n ≡ false

-- a step of the tail that runs in the minute before t needs fact n
abbrev pub NeededBefore : ℕ → List Step → ℕ → Type 0
NeededBefore t L n =
    (x : Step) × (Q : List Step) × Place x Q L × (x.start < t) × (t ≤ x.stop) × (has x.action.needs n ≡ true)

abbrev pub Carried : Job → ℕ → ℕ → ℕ → ℕ → (ℕ → Bool) → List Step → ℕ → Type 0
Carried J goal T t s done L n = WantedBefore J goal T t s done L n ⊎ NeededBefore t L n

module _ (J : Job) (b : From) (goal T t s : ℕ) (in_time : t ≤ T) (done : ℕ → Bool) (E L : List Step)
    (left : EachStep (Open b t done) E) (p : NormalPlan J b goal T (E ++ L)) (event : EventBefore J t s done L) where
  -- a step of E that stops at t starts by s
  starts_by_event : {x : Step} {Q : List Step} → Place x Q E → x.stop ≡ t → done x.number ≡ false → x.start ≤ s
  starts_by_event {x} i stops undecided =
      let in_plan = place_append L i in
      let own = own_stop J T goal (E ++ L) p.plan in_plan in
      let least = event.open_starts x.number (p.plan.known x _ in_plan) undecided in
      omega arith

  -- no step of E stops between s and t: another step would have to start there
  no_stop_at : (k m : ℕ) → t ≤ m + k → s < m → m < t → EachStep (λ x. x.stop ≡ m → ⊥) E
  no_stop_at zero m l after before x Q i stops = omega arith
  no_stop_at (suc k) m l after before x Q i stops =
      let in_plan = place_append L i in
      let keeps = p.plan.keeps in
      ⊎_elim
      (λ touched.
      let r = find_any (touches_at J x.stop) (E ++ L) touched in
      let y : Step = r.0 in
      let start = touches_not_before J x.stop y r.3 in
      let lasts = keeps.lasting y r.1 r.2 in
      ⊎_elim
      (λ w.
      let o = left y w.0 w.1 in
      ⊎_elim
      (λ less. no_stop_at k y.stop (omega arith) (omega arith) less y w.0 w.1 refl)
      (λ at. let early = starts_by_event w.1 at.0 at.1 in omega arith)
      o.2)
      (λ w. event.no_event x.stop (omega arith) (omega arith) y w.0 w.1 (touches_reads J x.stop y r.3))
      (append_cases E L r.2))
      (λ untouched.
      not_both (p.blocked_steps x _ in_plan (left x Q i).0)
      (not_blocked_when_untouched J goal T in_plan keeps untouched (λ e. omega arith)))
      (decided (any (touches_at J x.stop) (E ++ L)))

  -- what is wanted at t and not added then held at s
  wanted_held : (n : ℕ) → WantedBefore J goal T t s done L n → has (held J.start (E ++ L) s) n ≡ true
  wanted_held n w =
      let keeps = p.plan.keeps in
      let earlier = event.earlier in
      let stops : EachStep (λ x. x.stop ≤ t) E =
      λ x Q i. ⊎_elim (λ l. omega arith) (λ at. let e = at.0 in omega arith) (left x Q i).2 in
      let same = tail_wants t goal T E L stops keeps.lasting t (omega arith) in_time in
      wanted_holds J T goal (E ++ L) keeps s (omega arith) n
      (wanted_unless_added_between goal (E ++ L) T t in_time s n (omega arith) (rw same w.wanted)
      (λ a.
      let x : Step = a.by in
      let after = a.after in
      let until = a.until in
      ⊎_elim
      (λ r.
      ⊎_elim
      (λ less. no_stop_at t x.stop (omega arith) after less x r.0 r.1 refl)
      (λ at.
      let in_plan = place_append L r.1 in
      let own = own_action J T goal (E ++ L) p.plan in_plan in
      not_both (rw own at a.adds) (w.others x.number (p.plan.known x _ in_plan) at.1))
      (left x r.0 r.1).2)
      (λ r. not_both a.adds (w.tail x r.0 r.1 after until))
      (append_cases E L a.place)))

  needed_held : (n : ℕ) → NeededBefore t L n → has (held J.start (E ++ L) s) n ≡ true
  needed_held n w =
      let x : Step = w.0 in
      let earlier = event.earlier in
      let starts = w.3 in
      let stops = w.4 in
      let by : x.start ≤ s =
      ⊎_elim (λ l. l) (λ l. absurd (event.no_event x.start l starts x w.1 w.2 (inl refl)))
      (le_or_lt x.start s) in
      keeps_needs_hold J T goal (E ++ L) p.plan.keeps x _ (place_after E w.2) s by (omega arith) n w.5

  pub carried_held : (set : ℕ) → ((n : ℕ) → has set n ≡ true → Carried J goal T t s done L n)
      → Subset set (held J.start (E ++ L) s)
  carried_held set carried n h = ⊎_elim (wanted_held n) (needed_held n) (carried n h)

-- a set of carried facts that cannot hold together by the event minute makes a dead end
pub dead_when_carried_late : (J : Job) (b : From) (goal T t s : ℕ) → t ≤ T → (done : ℕ → Bool) (L : List Step)
    → b.minute ≤ s → EventBefore J t s done L → (bound : ℕ → ℕ → Type 0) → Bounds J b goal T L bound
    → (set : ℕ) → ((n : ℕ) → has set n ≡ true → Carried J goal T t s done L n) → (bound set s → ⊥)
    → Dead J b goal T (Open b t done) L
dead_when_carried_late J b goal T t s in_time done L after event bound bounds set carried late E h p =
    late (bounds E (λ x Q i. (h x Q i).0) p set s after
    (carried_held J b goal T t s in_time done E L h p event set carried))
