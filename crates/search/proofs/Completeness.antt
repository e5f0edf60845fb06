-- Why the search misses no plan: one action after the other, and from event to event.
-- Assumes nothing.
use Prim.Native.Nat.{ℕ, ◌≤◌, ◌<◌}
use mathlib.Core.Path.{◌≡◌, ap}
use mathlib.Core.Bool.{true, false, not}
use mathlib.Core.List.{List, ◌∷◌}
use native.Mathlib.Omega.{arith}
use lib.Dec.{eqb}
use lib.ListN.{length}
use borrow.Author.Tests.{eq-eqb, not-true, not-false}
use Rattle.lists.proofs.Bools.{or_left, or_right}
use Rattle.facts.specs.FactSet.{has, single, difference}
use Rattle.facts.proofs.Membership.{has_zero}
use Rattle.facts.proofs.SetLaws.{in_difference}
use Rattle.job.specs.Job.{Job}
use Rattle.timeline.specs.Step.{Step}
use Rattle.timeline.proofs.Tests.{not_both, false_unless}
use Rattle.times.proofs.Singles.{only_in_single}
use Rattle.regression.specs.DeadEnd.{Until, Open}
use Rattle.regression.proofs.Decisions.{also_decided, dead_choose, dead_decided}
use Rattle.regression.proofs.Decisions.{dead_when_barred, dead_when_none_decided}
use Rattle.regression.proofs.Minutes.{no_event_lem, dead_back_to_event}
use Rattle.tables.specs.Tables.{Describes, chosen, from_of}
use Rattle.tables.specs.declared.Frame.{Frame}
use Rattle.states.specs.declared.state.State.{State}
use Rattle.states.specs.States.{DeadFor, Barred, next_step, OpenIn}
use Rattle.states.specs.Moves.{NoEventBetween}
use Rattle.states.proofs.Events.{untouched_between}

module _ (J : Job) (frame : Frame) (st : State) where
  abbrev L : List Step
  L = chosen J st.steps

  abbrev t : ℕ
  t = st.minute

  -- ---- one action after the other
  -- those of the undecided actions that are not left are barred
  pub dead_past_barred : length J.actions ≡ frame.actions → (undecided left : ℕ)
      → ((a : ℕ) → a < frame.actions → has undecided a ≡ true → has left a ≡ false → Barred J frame st a)
      → DeadFor J frame (OpenIn frame st left) L → DeadFor J frame (OpenIn frame st undecided) L
  dead_past_barred count undecided left barred =
      dead_when_barred J (from_of frame) frame.goal frame.horizon t (λ a. not (has undecided a))
      (λ a. not (has left a)) L
      (λ a known before now fits.
      barred a (omega arith) (not-false (has undecided a) before) (not-true (has left a) now) fits)

  -- the step of action i completes nothing, and without it nothing does
  pub dead_either : (left i : ℕ)
      → DeadFor J frame (OpenIn frame st (difference left (single i))) (next_step J st i ∷ L)
      → DeadFor J frame (OpenIn frame st (difference left (single i))) L → DeadFor J frame (OpenIn frame st left) L
  dead_either left i with without =
      dead_choose J (from_of frame) frame.goal frame.horizon t (λ a. not (has left a)) i L
      (λ fits. less (next_step J st i ∷ L) with) (less L without)
    where
      less : (M : List Step) → DeadFor J frame (OpenIn frame st (difference left (single i))) M
          → DeadFor J frame (Open (from_of frame) t (also_decided (λ a. not (has left a)) i)) M
      less M =
          dead_decided J (from_of frame) frame.goal frame.horizon t (λ a. not (has (difference left (single i)) a))
          (also_decided (λ a. not (has left a)) i) M
          (λ a e.
          let other = or_left (eqb a i) _ e in
          let member = not-false (has left a) (or_right (eqb a i) _ e) in
          let apart = false_unless (has (single i) a)
          (λ s. not_both (eq-eqb a i (only_in_single i a s)) other) in
          ap not (in_difference left (single i) a member apart))

  -- with no action of the job decided
  pub dead_until : length J.actions ≡ frame.actions → (undecided : ℕ)
      → ((a : ℕ) → a < frame.actions → has undecided a ≡ true) → DeadFor J frame (OpenIn frame st undecided) L
      → DeadFor J frame (Until (from_of frame) t) L
  dead_until count undecided all dead =
      dead_when_none_decided J (from_of frame) frame.goal frame.horizon t (λ a. not (has undecided a)) L
      (λ a known. ap not (all a (omega arith))) dead

  -- ---- back to the event before
  module _ (sets numbers : List ℕ) (described : Describes J sets numbers frame) (in_time : st.minute ≤ frame.horizon)
      (s : ℕ) (earlier : s < st.minute)
      (none : NoEventBetween frame.handovers frame.pools st.steps s st.minute) where
    pub dead_back : DeadFor J frame (Until (from_of frame) s) L → DeadFor J frame (OpenIn frame st 0) L
    dead_back dead =
        dead_back_to_event J (from_of frame) frame.goal frame.horizon L s t earlier (λ a. not (has 0 a))
        (λ a l. ap not (has_zero a))
        (λ m a b.
        no_event_lem J frame.horizon L m (λ e. omega arith)
        (untouched_between J sets numbers frame described st.steps s t none m a b))
        dead
