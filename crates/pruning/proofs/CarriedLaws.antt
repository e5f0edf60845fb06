-- What a state carries back from its minute, read off its sets.
-- Assumes nothing.
use Prim.Native.Nat.{ℕ, ◌≤◌, ◌<◌}
use mathlib.Core.Path.{◌≡◌, sym, ap, ap₂, subst, ◌∙◌}
use mathlib.Core.Bool.{Bool, true, false, cond, not, ◌&&◌}
use mathlib.Core.Logic.{inl, inr, ⊎_elim}
use mathlib.Core.List.{List}
use native.Mathlib.Omega.{arith}
use lib.Dec.{eqb, leb, ltb}
use borrow.Author.Tests.{eq-eqb, ltb-true, leb-true, lt-ltb, le-leb, not-false}
use Rattle.lists.proofs.Bools.{and_left, and_right}
use Rattle.facts.specs.FactSet.{has, union, difference}
use Rattle.facts.proofs.SetLaws.{in_union_left, in_union_right, in_union_cases, in_difference_parts}
use Rattle.job.specs.Job.{Job}
use Rattle.timeline.specs.Step.{Step, step_of}
use Rattle.timeline.specs.Places.{Place, EachStep}
use Rattle.regression.specs.Wanted.{added_between}
use Rattle.timeline.proofs.Tests.{not_both, false_unless, and_both, le_or_lt}
use Rattle.regression.proofs.Gathered.{in_cond, in_cond_parts, in_union_of, in_union_of_from}
use Rattle.regression.proofs.Carried.{EventBefore, NeededBefore, Carried}
use Rattle.tables.specs.Tables.{Describes, chosen, kept_of, KeepsKept}
use Rattle.tables.specs.declared.Frame.{Frame}
use Rattle.states.specs.declared.state.State.{State}
use Rattle.states.specs.Minutes.{runs_into}
use Rattle.states.specs.States.{Stands}
use Rattle.states.specs.Moves.{NoEventBetween}
use Rattle.states.proofs.Events.{untouched_between}
use Rattle.states.proofs.Chosen.{step_at, place_of_chosen, chosen_at_place}
use Rattle.pruning.specs.Carried.{AddsOf, LatestStart}

module _ (J : Job) (sets numbers : List ℕ) (frame : Frame) (described : Describes J sets numbers frame)
    (few : frame.actions ≤ 64) (st : State) (stands : Stands J frame st) (keeps : KeepsKept frame st.steps)
    (left : ℕ) where
  abbrev L : List Step
  L = chosen J st.steps

  abbrev t : ℕ
  t = st.minute

  abbrev done : ℕ → Bool
  done a = not (has left a)

  -- ---- the event minute
  pub event_before : (from s : ℕ) → NoEventBetween frame.handovers frame.pools st.steps from t
      → LatestStart numbers left t from 64 s → EventBefore J t s done L
  event_before from s none latest =
      let before = latest.before in
      let after = latest.not_before in
      let count = described.actions in
      record {
        earlier = before;
        no_event = λ m a b. untouched_between J sets numbers frame described st.steps from t none m (omega arith) b;
        open_starts = λ a known undecided.
            let d = described.each a (omega arith) in
            let duration = d.duration in
            let positive = d.positive in
            let start = latest.starts a (omega arith) (not-false (has left a) undecided) (omega arith) in
            omega arith;
      }

  -- ---- the facts
  stops_not_before : (k : ℕ) → frame.kept.count ≤ k → k < st.steps.count → t ≤ (step_at J st.steps k).stop
  stops_not_before k new inside =
      ⊎_elim (λ after. let e = (stands.enders k after inside).1 in omega arith)
      (λ before. let e = stands.later k new before in omega arith)
      (le_or_lt st.since k)

  -- neither a chosen step that stops now adds fact n, nor a kept step that stops after s and by now
  not_added : (s n given : ℕ) → given ≡ added_between s t (kept_of J frame) → has given n ≡ false
      → has st.at.added n ≡ false
      → EachStep (λ x. s < x.stop → x.stop ≤ t → has x.action.adds n ≡ false) L
  not_added s n given is nothing none x Q p after early =
      let k = place_of_chosen J st.steps st.steps.count p in
      false_unless (has x.action.adds n)
      (λ h.
      ⊎_elim
      (λ new.
      let late = stops_not_before k.0 new k.1 in
      let where_it_stops = ap (λ (y : Step). y.stop) k.2 in
      let stop : x.stop ≡ t = omega arith in
      not_both
      (ap (λ (set : ℕ). has set n) stands.at.added
      ∙ in_union_of (λ y. cond (eqb y.stop t) y.action.adds 0) n p
      (in_cond (eqb x.stop t) x.action.adds n (eq-eqb x.stop t stop) h))
      none)
      (λ old.
      let same : x ≡ step_at J frame.kept k.0 =
      k.2 ∙ ap₂ (step_of J) (keeps.numbers k.0 old) (keeps.starts k.0 old) in
      let m = chosen_at_place J frame.kept frame.kept.count k.0 old in
      let in_kept : Place x m.0 (kept_of J frame) =
      subst (λ (y : Step). Place y m.0 (kept_of J frame)) (sym same) m.1 in
      not_both
      (ap (λ (set : ℕ). has set n) is
      ∙ in_union_of (λ y. cond (ltb s y.stop && leb y.stop t) y.action.adds 0) n in_kept
      (in_cond (ltb s x.stop && leb x.stop t) x.action.adds n
      (and_both (lt-ltb s x.stop after) (le-leb x.stop t early)) h))
      nothing)
      (le_or_lt frame.kept.count k.0))

  needed_before : (n : ℕ) → has st.at.held n ≡ true → NeededBefore t L n
  needed_before n h =
      let r = in_union_of_from (λ y. cond (runs_into t y) y.action.needs 0) n L (rw stands.at.held at h) in
      let x : Step = r.0 in
      let c = in_cond_parts (runs_into t x) x.action.needs n r.3 in
      let starts = ltb x.start t in (
        x,
        r.1,
        r.2,
        ltb-true x.start t (and_left starts _ c.0),
        leb-true t x.stop (and_right starts _ c.0),
        c.1,
      )

  pub carried_from : (s adds given set : ℕ) → AddsOf sets left 64 adds → given ≡ added_between s t (kept_of J frame)
      → set ≡ union (difference st.wanted (union (union st.at.added adds) given)) st.at.held
      → (n : ℕ) → has set n ≡ true → Carried J frame.goal frame.horizon t s done L n
  carried_from s adds given set all is e n h =
      ⊎_elim
      (λ w.
      let both = union st.at.added adds in
      let parts = in_difference_parts st.wanted (union both given) n w in
      let count = described.actions in
      let neither = false_unless _ (λ a. not_both (in_union_left both given n a) parts.1) in
      let nothing = false_unless _ (λ a. not_both (in_union_right both given n a) parts.1) in
      inl
      (record {
        wanted = ap (λ (set : ℕ). has set n) (sym stands.wants) ∙ parts.0;
        tail = not_added s n given is nothing
            (false_unless _ (λ a. not_both (in_union_left st.at.added adds n a) neither));
        others = λ a known undecided.
            let d = described.each a (omega arith) in
            false_unless _
            (λ h.
            not_both
            (in_union_right st.at.added adds n
            (all a n (omega arith) (not-false (has left a) undecided) (ap (λ (set : ℕ). has set n) d.adds ∙ h)))
            neither);
      }))
      (λ w. inr (needed_before n w))
      (in_union_cases (difference st.wanted (union (union st.at.added adds) given)) st.at.held n (rw e at h))
