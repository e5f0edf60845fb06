-- The next state stands as the one before: an action taken, and the way back to an event minute.
-- Assumes nothing.
use Prim.Native.Nat.{ℕ, ◌+◌, ◌-◌, ◌≤◌, ◌<◌}
use mathlib.Core.Path.{◌≡◌, refl, sym, ap, ap₂, subst, ◌∙◌}
use mathlib.Core.Bool.{true, false, cond, true≢false}
use mathlib.Core.Logic.{⊎_elim}
use mathlib.Core.List.{List, ◌∷◌}
use native.Mathlib.Nat.{eq-or-lt_of_le}
use native.Mathlib.Omega.{arith}
use lib.Dec.{eqb}
use lib.ListN.{get_or}
use lib.Seq.{get_or-set_same, get_or-set_other}
use borrow.Author.Tests.{eqb-true, lt-ltb, le-leb}
use Rattle.lists.proofs.Bools.{and_left, and_right}
use Rattle.facts.specs.FactSet.{has, union, difference, meets, single}
use Rattle.facts.proofs.Membership.{has_zero}
use Rattle.job.specs.Job.{Job}
use Rattle.timeline.specs.Step.{Step, step_of}
use Rattle.timeline.specs.From.{IsNew, FitsFrom}
use Rattle.timeline.specs.Places.{here, there, EachStep}
use Rattle.timeline.proofs.Tests.{or_cases, and_both, le_or_lt}
use Rattle.timeline.proofs.NewSteps.{fits_by, new_of_fits}
use Rattle.times.specs.Earliest.{action_of}
use Rattle.times.proofs.Singles.{in_single}
use Rattle.regression.specs.Wanted.{wanted_at}
use Rattle.regression.proofs.Gathered.{in_union_of, in_union_of_from, in_cond_parts}
use Rattle.regression.proofs.WantedBetween.{wanted_back_to}
use Rattle.tables.specs.Tables.{Describes, Known, chosen, pushed, duration_at, clashes_at, adds_at, from_of}
use Rattle.tables.specs.declared.Frame.{Frame}
use Rattle.tables.specs.declared.Steps.{Steps}
use Rattle.states.specs.declared.state.State.{State}
use Rattle.states.specs.declared.minute.Minute.{Minute}
use Rattle.states.specs.declared.amounts.Uses.{Uses}
use Rattle.states.specs.Minutes.{runs_into, MinuteOf}
use Rattle.states.specs.Amounts.{UsesOf}
use Rattle.states.specs.States.{AddedTwice, Stands, next_step, Fits}
use Rattle.states.specs.Moves.{start_of, Taken, NoEventBetween, Back}
use Rattle.states.proofs.Events.{no_start_between}
use Rattle.states.proofs.Chosen.{chosen_pushed}
use Rattle.states.proofs.BarredActions.{stops, wanted_still, lasting, not_running}

minute_as : (t t' : ℕ) (L L' : List Step) (m : Minute) → t ≡ t' → L ≡ L' → MinuteOf t L m → MinuteOf t' L' m
minute_as t t' L L' m e f h = rw (← e, ← f) h

uses_as : (J : Job) (t t' : ℕ) (L L' : List Step) (uses : Uses) → t ≡ t' → L ≡ L' → UsesOf J t L uses
    → UsesOf J t' L' uses
uses_as J t t' L L' uses e f h = rw (← e, ← f) h

twice_in_more : (t n : ℕ) (x : Step) (L : List Step) → AddedTwice t n L → AddedTwice t n (x ∷ L)
twice_in_more t n x L a =
    record {
      one = a.one;
      other = a.other;
      one_in = (x ∷ a.one_in.0, there a.one_in.1);
      other_in = (x ∷ a.other_in.0, there a.other_in.1);
      different = a.different;
      one_stops = a.one_stops;
      other_stops = a.other_stops;
      one_adds = a.one_adds;
      other_adds = a.other_adds;
    }

-- the steps from `since` on are new and stop at the minute
abbrev Enders : Job → Frame → Steps → ℕ → ℕ → Type 0
Enders J frame steps t since =
    (k : ℕ) → since ≤ k → k < steps.count
    → IsNew (from_of frame) (step_of J (get_or steps.numbers k 0) (get_or steps.starts k 0))
    × (get_or steps.starts k 0 + (action_of J (get_or steps.numbers k 0)).duration ≡ t)

enders_as : (J : Job) (frame : Frame) {steps steps' : Steps} {t t' since since' : ℕ} → steps ≡ steps' → t ≡ t'
    → since ≡ since' → Enders J frame steps t since → Enders J frame steps' t' since'
enders_as J frame e f g h = rw (← e, ← f, ← g) h

-- the steps before `since` stop after the minute
abbrev Later : Job → ℕ → Steps → ℕ → ℕ → Type 0
Later J kept steps t since =
    (k : ℕ) → kept ≤ k → k < since → t < get_or steps.starts k 0 + (action_of J (get_or steps.numbers k 0)).duration

later_as : (J : Job) (kept : ℕ) {steps steps' : Steps} {t t' since since' : ℕ} → steps ≡ steps' → t ≡ t'
    → since ≡ since'
    → Later J kept steps t since → Later J kept steps' t' since'
later_as J kept e f g h = rw (← e, ← f, ← g) h

twice_as : {t t' : ℕ} {L L' : List Step} → t ≡ t' → L ≡ L' → (n : ℕ) → AddedTwice t n L → AddedTwice t' n L'
twice_as e f n h = rw (← e, ← f) h

-- ---- an action whose step is new
module _ (numbers : List ℕ) (frame : Frame) (st : State) (i : ℕ) (fits : Fits numbers frame st i) where
  pub fits_in_time : frame.first + duration_at numbers i ≤ st.minute
  fits_in_time = fits_by (from_of frame) i (duration_at numbers i) st.minute fits

  pub new_when_fits : (J : Job) → IsNew (from_of frame) (step_of J i (start_of numbers st i))
  new_when_fits J =
      let l = fits_in_time in
      new_of_fits (from_of frame) i (duration_at numbers i) st.minute (step_of J i (start_of numbers st i)) refl
      (omega arith) fits

-- ---- an action taken
module _ (J : Job) (sets numbers : List ℕ) (frame : Frame) (described : Describes J sets numbers frame) (st : State)
    (known_steps : Known frame.actions st.steps) (i : ℕ) (known : i < frame.actions)
    (room : st.steps.count < 32) (fits : Fits numbers frame st i)
    (r : State) (taken : Taken sets numbers frame.handovers st i r) where
  same_start : start_of numbers st i ≡ st.minute - (action_of J i).duration
  same_start = ap (λ (d : ℕ). st.minute - d) (described.each i known).duration

  pub chosen_taken : chosen J r.steps ≡ next_step J st i ∷ chosen J st.steps
  chosen_taken =
      ap (chosen J) taken.steps
      ∙ chosen_pushed J st.steps frame.actions i (start_of numbers st i) known_steps room
      ∙ ap (λ (s : ℕ). step_of J i s ∷ chosen J st.steps) same_start

  module _ (stands : Stands J frame st) (apart : meets (clashes_at sets i) st.at.running ≡ false)
      (ordered : st.since ≤ st.steps.count) where
    fits_in_job : FitsFrom (from_of frame) i (action_of J i).duration st.minute
    fits_in_job =
        subst (λ (d : ℕ). FitsFrom (from_of frame) i d st.minute) (described.each i known).duration fits

    abbrev x : Step
    x = next_step J st i

    abbrev L : List Step
    L = chosen J st.steps

    ends_now : x.stop ≡ st.minute
    ends_now = stops J sets numbers frame described st known_steps stands i known fits_in_job

    -- a fact that x adds, and a step of L that stops now
    added_again : (n : ℕ) → has st.at.added n ≡ true → has (adds_at sets i) n ≡ true
        → AddedTwice st.minute n (x ∷ L)
    added_again n h k =
        let p = in_union_of_from (λ y. cond (eqb y.stop st.minute) y.action.adds 0) n L
        (rw stands.at.added at h) in
        let y : Step = p.0 in
        let c = in_cond_parts (eqb y.stop st.minute) y.action.adds n p.3 in
        let stop = eqb-true y.stop st.minute c.0 in
        let l = lasting J sets numbers frame described st known_steps stands i known fits_in_job y p.1 p.2 in
        let runs : runs_into st.minute y ≡ true =
        and_both (lt-ltb y.start st.minute (omega arith)) (le-leb st.minute y.stop (omega arith)) in
        let alone = not_running J sets numbers frame described st known_steps stands i known fits_in_job apart in
        record {
          one = x;
          other = y;
          one_in = (L, here);
          other_in = (x ∷ p.1, there p.2);
          different = λ e.
              true≢false
              (sym (ap (λ (set : ℕ). has set i) stands.at.running
              ∙ in_union_of (λ y. cond (runs_into st.minute y) (single y.number) 0) i p.2
              (rw (runs, ← e) (in_single i)))
              ∙ alone);
          one_stops = ends_now;
          other_stops = stop;
          one_adds = ap (λ (set : ℕ). has set n) (sym (described.each i known).adds) ∙ k;
          other_adds = c.1;
        }

    twice_now : (n : ℕ) → has r.twice n ≡ true → AddedTwice st.minute n (x ∷ L)
    twice_now n h =
        ⊎_elim (λ a. twice_in_more st.minute n x L (stands.twice n a))
        (λ a. added_again n (and_left _ _ a) (and_right (has st.at.added n) _ a))
        (or_cases (has st.twice n) _ (sym (taken.twice n) ∙ h))

    enders_now : Enders J frame (pushed st.steps i (start_of numbers st i)) st.minute st.since
    enders_now k a b =
        let n = known_steps.numbers in
        let m = known_steps.starts in
        let d = (described.each i known).duration in
        let l = fits_in_time numbers frame st i fits in
        ⊎_elim
        (λ e.
        let same : k ≡ st.steps.count = omega arith in
        rw (
          same,
          get_or-set_same st.steps.numbers st.steps.count i 0 (omega arith),
          get_or-set_same st.steps.starts st.steps.count (start_of numbers st i) 0 (omega arith),
        )
        (new_when_fits numbers frame st i fits J, omega arith))
        (λ less.
        let other : k ≡ st.steps.count → ⊥ = λ e. omega arith in
        rw (
          get_or-set_other st.steps.numbers st.steps.count k i 0 other,
          get_or-set_other st.steps.starts st.steps.count k (start_of numbers st i) 0 other,
        )
        (stands.enders k a (omega arith)))
        (eq-or-lt_of_le b)

    later_now : Later J frame.kept.count (pushed st.steps i (start_of numbers st i)) st.minute st.since
    later_now k new l =
        let other : k ≡ st.steps.count → ⊥ = λ e. omega arith in
        rw (
          get_or-set_other st.steps.numbers st.steps.count k i 0 other,
          get_or-set_other st.steps.starts st.steps.count k (start_of numbers st i) 0 other,
        )
        (stands.later k new l)

    pub taken_stands : Stands J frame r
    taken_stands =
        record {
          in_time = rw taken.minute stands.in_time;
          wants = taken.wanted
              ∙ sym (wanted_still J sets numbers frame described st known_steps stands i known fits_in_job)
              ∙ ap (wanted_at frame.goal (x ∷ L) frame.horizon) ends_now
              ∙ sym (ap₂ (λ (P : List Step) (t : ℕ). wanted_at frame.goal P frame.horizon t)
              chosen_taken taken.minute);
          at = minute_as st.minute r.minute _ (chosen J r.steps) r.at (sym taken.minute)
              (ap (λ (s : ℕ). step_of J i s ∷ L) same_start ∙ sym chosen_taken)
              (taken.at J (described.each i known) L stands.at);
          uses = uses_as J st.minute r.minute _ (chosen J r.steps) r.uses (sym taken.minute)
              (ap (λ (s : ℕ). step_of J i s ∷ L) same_start ∙ sym chosen_taken)
              (taken.uses.joins J sets (described.each i known) described.handovers L stands.uses);
          twice = λ n h. twice_as (sym taken.minute) (sym chosen_taken) n (twice_now n h);
          enders = enders_as J frame (sym taken.steps) (sym taken.minute) (sym taken.since) enders_now;
          later = later_as J frame.kept.count (sym taken.steps) (sym taken.minute) (sym taken.since)
              later_now;
        }

-- ---- back to an event minute
module _ (J : Job) (sets numbers : List ℕ) (frame : Frame) (described : Describes J sets numbers frame) (st r : State)
    (s : ℕ) (back : Back sets numbers frame s st r) (stands : Stands J frame st) (earlier : s < st.minute)
    (none : NoEventBetween frame.handovers frame.pools st.steps s st.minute) where
  no_start : EachStep (λ x. s < x.start → x.start < st.minute → ⊥) (chosen J st.steps)
  no_start = no_start_between J sets numbers frame described st.steps s st.minute none

  pub chosen_back : chosen J r.steps ≡ chosen J st.steps
  chosen_back = ap (chosen J) back.steps

  -- the steps that stopped at the minute left are later too
  later_left : Later J frame.kept.count st.steps s st.steps.count
  later_left k new l =
      ⊎_elim (λ after. let e = stands.enders k after l in let stop = e.1 in omega arith)
      (λ before. let e = stands.later k new before in omega arith)
      (le_or_lt st.since k)

  pub back_stands : Stands J frame r
  back_stands =
      let in_time_lem = stands.in_time in
      let e = back.minute in
      let at : MinuteOf s (chosen J st.steps) r.at = back.at J described.each in
      record {
        in_time = omega arith;
        wants = back.wanted
            ∙ ap₂ union (ap₂ difference stands.wants (back.is_gone J described.each)) at.needed
            ∙ sym (wanted_back_to frame.goal (chosen J st.steps) frame.horizon st.minute in_time_lem s earlier
            no_start)
            ∙ sym (ap₂ (λ (P : List Step) (t : ℕ). wanted_at frame.goal P frame.horizon t)
            chosen_back back.minute);
        at = minute_as s r.minute _ (chosen J r.steps) r.at (sym back.minute) (sym chosen_back) at;
        uses = uses_as J s r.minute _ (chosen J r.steps) r.uses (sym back.minute) (sym chosen_back)
            (back.uses.looks J sets described.each described.handovers);
        twice = λ n h. absurd (true≢false (sym h ∙ ap (λ (set : ℕ). has set n) back.twice ∙ has_zero n));
        enders = λ k a b.
            let c = ap (λ (steps : Steps). steps.count) back.steps in let d = back.since in absurd (omega arith);
        later = later_as J frame.kept.count (sym back.steps) (sym back.minute) (sym back.since) later_left;
      }
