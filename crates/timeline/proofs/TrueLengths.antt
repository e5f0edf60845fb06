-- "For every choice of true length within the ranges, one for each step, the same starts must still pass the checker."
-- Assumes nothing.
use Prim.Native.Nat.{ℕ, ◌+◌, ◌<◌, ◌≤◌}
use mathlib.Core.Path.{◌≡◌, refl, sym, ap, ◌∙◌}
use mathlib.Core.Bool.{Bool, false, ◌&&◌}
use mathlib.Core.Logic.{⊎_elim}
use mathlib.Core.List.{List, [], ◌∷◌, ◌++◌, append_assoc}
use native.Mathlib.Nat.{eq-or-lt_of_le, le_refl}
use native.Mathlib.Omega.{arith}
use lib.Dec.{ltb}
use lib.ListN.{length}
use borrow.Author.Tests.{ltb-false}
use Rattle.lists.proofs.Bools.{or_left, or_right}
use Rattle.job.specs.Job.{Job}
use Rattle.job.specs.Lengths.{shortest_of}
use Rattle.job.specs.Refusal.{first}
use Rattle.job.specs.Refusal.{pass}
use Rattle.job.specs.Passed.{Passed}
use Rattle.timeline.specs.Step.{Step, before, strictly_rising, steps_in}
use Rattle.timeline.specs.Timeline.{end}
use Rattle.timeline.specs.Accepted.{step_rows, Accepted}
use Rattle.timeline.specs.TrueLengths.{with_lengths, outside_range, wrong_lengths}
use Rattle.timeline.specs.Places.{Place, here, there, EachStep}
use Rattle.timeline.specs.Keeps.{Keeps, OfJob}
use Rattle.timeline.proofs.Places.{each_cons, place_after, largest_at_most}
use Rattle.timeline.proofs.AcceptedSteps.{accepted_steps}
use Rattle.timeline.proofs.Keeps.{accepted_of_keeps}
use Rattle.timeline.proofs.JobSteps.{steps_in_bytes, steps_of_accepted, keeps_of_bytes}
use Rattle.timeline.proofs.Shorter.{until, shorter_step}

-- a step with its own stop
same_stop_lem : (x : Step) (m : ℕ) → m ≡ x.stop → until m x ≡ x
same_stop_lem x m e = ap (λ (s : ℕ). until s x) e

module _ (J : Job) (T goal : ℕ) where
  -- one step after the other
  keeps_with_lengths : (A P : List Step) (lengths : List ℕ)
      → EachStep (λ x. x.stop ≡ x.start + x.action.duration) P → EachStep (λ x. 0 < shortest_of J x.number) P
      → wrong_lengths J P lengths ≡ false → Keeps J T goal (A ++ P) → Keeps J T goal (A ++ with_lengths P lengths)
  keeps_with_lengths A [] lengths own positive right keeps = keeps
  keeps_with_lengths A (x ∷ P) [] own positive right keeps = keeps
  keeps_with_lengths A (x ∷ P) (n ∷ lengths) own positive right keeps =
      let m : ℕ = x.start + n in
      let range = or_left (outside_range J x n) _ right in
      let rest = or_right (outside_range J x n) _ right in
      let least = ltb-false n (shortest_of J x.number) (or_left (ltb n (shortest_of J x.number)) _ range) in
      let most = ltb-false x.action.duration n (or_right (ltb n (shortest_of J x.number)) _ range) in
      let first : Place x P (x ∷ P) = here in
      let stop = own x P first in
      let some = positive x P first in
      let one : Keeps J T goal (A ++ (until m x ∷ P)) =
      ⊎_elim
      (λ e. rw (same_stop_lem x m e) keeps)
      (λ l.
      let first' : Place (until m x) P (until m x ∷ P) = here in
      shorter_step J T goal (place_after A first) (place_after A first') keeps (omega arith) l)
      (eq-or-lt_of_le (shorter_bound x.start n x.action.duration x.stop stop most)) in
      rw (← append_assoc A (until m x ∷ []) (with_lengths P lengths))
      (keeps_with_lengths (A ++ (until m x ∷ [])) P lengths
      (λ y Q i. own y (x ∷ Q) (there i)) (λ y Q i. positive y (x ∷ Q) (there i)) rest
      (rw (append_assoc A (until m x ∷ []) P) one))
    where
      shorter_bound : (s n d e : ℕ) → e ≡ s + d → n ≤ d → s + n ≤ e
      shorter_bound s n d e a b = omega arith

-- ---- the tests that look at numbers and starts alone
rising_with_lengths : (P : List Step) (lengths : List ℕ) → strictly_rising P ≡ strictly_rising (with_lengths P lengths)
rising_with_lengths [] lengths = refl
rising_with_lengths (x ∷ P) [] = refl
rising_with_lengths (x ∷ []) (n ∷ lengths) = refl
rising_with_lengths (x ∷ y ∷ P) (n ∷ []) = refl
rising_with_lengths (x ∷ y ∷ P) (n ∷ m ∷ lengths) =
    ap (λ (b : Bool). before x y && b) (rising_with_lengths (y ∷ P) (m ∷ lengths))

each_with_lengths : (count : ℕ) (P : List Step) (lengths : List ℕ) → EachStep (λ x. x.number < count) P
    → EachStep (λ x. x.number < count) (with_lengths P lengths)
each_with_lengths count [] lengths h = h
each_with_lengths count (x ∷ P) [] h = h
each_with_lengths count (x ∷ P) (n ∷ lengths) h =
    let first : Place x P (x ∷ P) = here in
    each_cons (λ y. y.number < count) (until (x.start + n) x) (with_lengths P lengths) (h x P first)
    (each_with_lengths count P lengths (λ z R j. h z (x ∷ R) (there j)))

-- the whole, with the goal at the true end
pub true_lengths_pass : (J : Job) (goal : ℕ) (bytes lengths : List ℕ) → Passed J → Accepted J goal bytes
    → wrong_lengths J (steps_in J bytes) lengths ≡ false
    → (first (step_rows J goal (with_lengths (steps_in J bytes) lengths)) ≡ pass)
    × (end (with_lengths (steps_in J bytes) lengths) ≤ end (steps_in J bytes))
true_lengths_pass J goal bytes lengths passed accepted right =
    let P = steps_in J bytes in
    let pass = steps_of_accepted J goal bytes accepted in
    let a = accepted_steps J goal P pass in
    let keeps = keeps_of_bytes J goal bytes (end P) passed accepted (le_refl _) in
    accepted_of_keeps J goal (with_lengths P lengths) (end P)
    (largest_at_most (λ x. x.stop) J.deadline P a.before_deadline)
    (each_with_lengths (length J.actions) P lengths a.known)
    (sym (rising_with_lengths P lengths) ∙ a.rising)
    (keeps_with_lengths J (end P) goal [] P lengths (λ x Q i. own_stop x (steps_in_bytes J bytes x Q i))
    (λ x Q i. (passed.ranges x.number (a.known x Q i)).0) right keeps)
  where
    own_stop : (x : Step) → OfJob J x → x.stop ≡ x.start + x.action.duration
    own_stop x own =
        ap (λ (y : Step). y.stop) own ∙ ap (λ (y : Step). x.start + y.action.duration) (sym own)
