-- Why a state that fails a test is a dead end.
-- Assumes nothing.
use Prim.Native.Nat.{ℕ, ◌+◌, ◌≤◌, ◌<◌}
use mathlib.Core.Path.{◌≡◌, sym, ap, subst, ◌∙◌}
use mathlib.Core.Bool.{Bool, true, false, not, cond, ◌&&◌, true≢false}
use mathlib.Core.Logic.{⊎_elim}
use mathlib.Core.List.{List, ◌++◌, append_assoc}
use native.Mathlib.Omega.{arith}
use lib.Dec.{eqb, leb, ltb}
use lib.ListN.{get_or}
use borrow.Author.Tests.{eq-eqb, ne_eqb, eqb-true, eqb-false}
use Rattle.facts.specs.FactSet.{has, union, difference, meets, Subset}
use Rattle.facts.proofs.SetLaws.{in_union_left, in_union_right, in_union_cases, in_difference, in_difference_parts}
use Rattle.facts.proofs.SetLaws.{not_in_both, no_common_member}
use Rattle.job.specs.Job.{Job}
use Rattle.timeline.specs.Step.{Step, union_of}
use Rattle.timeline.specs.Timeline.{held}
use Rattle.timeline.specs.Places.{Member}
use Rattle.timeline.specs.Keeps.{PlanOf}
use Rattle.timeline.proofs.Tests.{and_both, decided}
use Rattle.timeline.proofs.NewSteps.{new_both_from_minute}
use Rattle.earliest.specs.Numbers.{set_number}
use Rattle.landmarks.specs.Bounds.{TimesBound}
use Rattle.regression.specs.Wanted.{wanted_at}
use Rattle.regression.specs.Normal.{added_beside}
use Rattle.regression.specs.Tests.{provided, solely_provides, running_needs}
use Rattle.regression.specs.DeadEnd.{Until}
use Rattle.regression.proofs.Gathered.{in_union_of, in_union_of_from}
use Rattle.regression.proofs.DeadEnds.{dead_when_not_sole_provider, dead_when_running_too_early}
use Rattle.regression.proofs.DeadEnds.{Bounds}
use Rattle.regression.proofs.Carried.{EventBefore, Carried, dead_when_carried_late}
use Rattle.tables.specs.Tables.{Describes, Known, chosen, adds_at, kept_of, from_of, KeepsKept}
use Rattle.tables.specs.declared.Steps.{Steps}
use Rattle.tables.specs.declared.Frame.{Frame}
use Rattle.states.specs.declared.state.State.{State}
use Rattle.states.specs.Minutes.{runs_into}
use Rattle.states.specs.States.{AddedTwice, Stands, DeadFor, OpenIn}
use Rattle.states.proofs.Chosen.{step_at, chosen_at_place, chosen_splits, since_new}

-- ---- a step that stops now adds nothing alone
module _ (J : Job) (sets numbers : List ℕ) (frame : Frame) (described : Describes J sets numbers frame) (st : State)
    (known_steps : Known frame.actions st.steps) (stands : Stands J frame st) (k : ℕ) (ender : st.since ≤ k)
    (inside : k < st.steps.count) where
  abbrev t : ℕ
  t = st.minute

  abbrev L : List Step
  L = chosen J st.steps

  abbrev x : Step
  x = step_at J st.steps k

  abbrev number : ℕ
  number = get_or st.steps.numbers k 0

  place : Member x L
  place = chosen_at_place J st.steps st.steps.count k inside

  known : number < frame.actions
  known = known_steps.known k inside

  stops_now : x.stop ≡ t
  stops_now = (stands.enders k ender inside).1

  in_held : (n : ℕ) → has st.at.held n ≡ true → has (union_of (provided x) L) n ≡ true
  in_held n h =
      let r = in_union_of_from (λ y. cond (runs_into t y) y.action.needs 0) n L (rw stands.at.held at h) in
      let y : Step = r.0 in
      let same = ap (λ (u : ℕ). cond (ltb y.start u && leb u y.stop) y.action.needs 0) stops_now in
      in_union_of (provided x) n r.2 (in_union_right (added_beside x y) _ n (ap (λ (set : ℕ). has set n) same ∙ r.3))

  -- another step of L that stops now and adds the fact
  by_other : (n : ℕ) (y : Step) → Member y L → (y.number ≡ number → ⊥) → y.stop ≡ t → has y.action.adds n ≡ true
      → has (union_of (provided x) L) n ≡ true
  by_other n y m apart stop adds =
      let test : (eqb y.stop x.stop && not (eqb y.number number)) ≡ true =
      and_both (eq-eqb y.stop x.stop (stop ∙ sym stops_now)) (ap not (ne_eqb y.number number apart)) in
      in_union_of (provided x) n m.1
      (in_union_left (added_beside x y) _ n (ap (λ (b : Bool). has (cond b y.action.adds 0) n) test ∙ adds))

  in_twice : (n : ℕ) → has st.twice n ≡ true → has (union_of (provided x) L) n ≡ true
  in_twice n h =
      let a : AddedTwice t n L = stands.twice n h in
      ⊎_elim
      (λ e.
      by_other n a.other a.other_in (λ f. a.different (eqb-true a.one.number number e ∙ sym f))
      a.other_stops a.other_adds)
      (λ e. by_other n a.one a.one_in (eqb-false a.one.number number e) a.one_stops a.one_adds)
      (decided (eqb a.one.number number))

  unprovided : (n : ℕ) → has (union_of (provided x) L) n ≡ false → has (union st.at.held st.twice) n ≡ false
  unprovided n none =
      ⊎_elim
      (λ h.
      absurd
      (true≢false (sym (⊎_elim (in_held n) (in_twice n) (in_union_cases st.at.held st.twice n h)) ∙ none)))
      (λ h. h)
      (decided (has (union st.at.held st.twice) n))

  pub dead_when_adding_nothing_alone :
      meets (difference (adds_at sets number) (union st.at.held st.twice)) st.wanted ≡ false
      → DeadFor J frame (Until (from_of frame) st.minute) L
  unfolding solely_provides
  dead_when_adding_nothing_alone h =
      let s = stops_now in
      dead_when_not_sole_provider J (from_of frame) frame.goal frame.horizon t L place.1 (omega arith)
      (stands.enders k ender inside).0
      (no_common_member _ _
      (λ n a w.
      let parts = in_difference_parts x.action.adds (union_of (provided x) L) n a in
      not_in_both _ st.wanted n h
      (in_difference (adds_at sets number) _ n (rw (described.each number known).adds parts.0)
      (unprovided n parts.1))
      (ap (λ (set : ℕ). has set n)
      (stands.wants ∙ sym (ap (wanted_at frame.goal L frame.horizon) stops_now))
      ∙ w)))

-- ---- a set that cannot be there by then
module _ (J : Job) (frame : Frame) (times : List ℕ)
    (timely : TimesBound J frame.first (kept_of J frame) frame.origin times) (facts : J.facts ≡ frame.facts)
    (in_time : frame.first ≤ frame.horizon) (steps : Steps) (keeps : KeepsKept frame steps) where
  -- the bound of the table, with the chosen steps
  bounds : Bounds J (from_of frame) frame.goal frame.horizon (chosen J steps)
      (λ set m. set_number times set J.facts + frame.origin ≤ m)
  bounds E new p set m after holds =
      let split = chosen_splits J frame steps keeps in
      let D : List Step = split.0 in
      let late = since_new J frame steps keeps D split.2 in
      let same : E ++ chosen J steps ≡ (E ++ D) ++ kept_of J frame =
      ap (λ (P : List Step). E ++ P) split.1 ∙ sym (append_assoc E D (kept_of J frame)) in
      (timely frame.horizon frame.goal in_time (E ++ D)
      (new_both_from_minute (from_of frame) E D new late)
      (subst (PlanOf J frame.horizon frame.goal) same p.plan) set m after
      (subst (λ (P : List Step). Subset set (held J.start P m)) same holds)).0

  not_by : (set m : ℕ) → m < set_number times set frame.facts + frame.origin
      → set_number times set J.facts + frame.origin ≤ m → ⊥
  not_by set m late h = let f = ap (set_number times set) facts in omega arith

  pub dead_when_carried : (st : State) → st.steps ≡ steps → Stands J frame st → (left s set : ℕ) → frame.first ≤ s
      → EventBefore J st.minute s (λ a. not (has left a)) (chosen J steps)
      → ((n : ℕ) → has set n ≡ true
      → Carried J frame.goal frame.horizon st.minute s (λ a. not (has left a)) (chosen J steps) n)
      → s < set_number times set frame.facts + frame.origin → DeadFor J frame (OpenIn frame st left) (chosen J steps)
  dead_when_carried st e stands left s set after event carried late =
      dead_when_carried_late J (from_of frame) frame.goal frame.horizon st.minute s stands.in_time
      (λ a. not (has left a)) (chosen J steps) after event _ bounds set carried (not_by set s late)

  pub dead_when_rushed : (m : ℕ) → frame.first ≤ m
      → m < set_number times (running_needs m (chosen J steps)) frame.facts + frame.origin → (t : ℕ)
      → DeadFor J frame (Until (from_of frame) t) (chosen J steps)
  dead_when_rushed m after late t =
      dead_when_running_too_early J (from_of frame) frame.goal frame.horizon (chosen J steps) _ bounds t m after
      (not_by (running_needs m (chosen J steps)) m late)
