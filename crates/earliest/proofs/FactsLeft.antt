-- A set gone over by taking its lowest fact out again and again: what is left of it, and the lowest fact of that.
-- Assumes nothing.
use Prim.Native.Nat.{ℕ, ◌+◌, ◌<◌, ◌≤◌}
use mathlib.Core.Path.{◌≡◌, ap, ◌∙◌}
use mathlib.Core.Bool.{true, false}
use mathlib.Core.Logic.{⊎_elim}
use native.Mathlib.Omega.{arith}
use borrow.Author.Tests.{eq-eqb, ne_eqb}
use Rattle.facts.specs.FactSet.{has, difference, single, Subset, NextFact}
use Rattle.facts.proofs.SetLaws.{in_difference, in_difference_parts}
use Rattle.timeline.proofs.Tests.{decided, not_both, le_or_lt}
use Rattle.times.proofs.Singles.{has_single, less_without}

-- what is left has the facts of the set from the lowest on
pub record Left (set left lowest : ℕ) : Type 0 where
  pub inside : Subset left set
  pub others : (n : ℕ) → has set n ≡ true → lowest ≤ n → has left n ≡ true
  pub next : NextFact left 0 lowest

module _ (set : ℕ) where
  pub all_left : (lowest : ℕ) → NextFact set 0 lowest → Left set set lowest
  all_left lowest next = record { inside = λ n h. h; others = λ n h l. h; next = next }

  module _ (left lowest : ℕ) (now : Left set left lowest) (here : lowest < 64) where
    -- with the lowest fact taken out
    module _ (one rest : ℕ) (alone : one ≡ single lowest) (taken : rest ≡ difference left one) where
      pub fewer_left : rest < left
      fewer_left = rw (taken, alone) (less_without left lowest (now.next.found here))

      still_left : (n : ℕ) → lowest < n → has set n ≡ true → has rest n ≡ true
      still_left n l h =
          rw taken
          (in_difference left one n (now.others n h (omega arith)) (ap (λ (s : ℕ). has s n) alone ∙ has_single lowest n ∙ ne_eqb n lowest (λ e. omega arith)))

      left_parts : (n : ℕ) → has rest n ≡ true → (has left n ≡ true) × (has one n ≡ false)
      left_parts n h = in_difference_parts left one n (rw taken at h)

      -- it stands above the lowest
      above : (n : ℕ) → has rest n ≡ true → lowest < n
      above n h =
          let parts = left_parts n h in
          ⊎_elim
          (λ up.
          ⊎_elim (λ more. omega arith)
          (λ same. absurd (not_both (rw (alone) (has_single lowest n ∙ eq-eqb n lowest (omega arith))) parts.1))
          (le_or_lt (lowest + 1) n))
          (λ below. absurd (not_both parts.0 (now.next.skipped n (omega arith) below)))
          (le_or_lt lowest n)

      -- the next fact of what is left is the next of the set
      pub next_of_set : (lower : ℕ) → NextFact rest 0 lower → NextFact set (lowest + 1) lower
      next_of_set lower next =
          record {
            within = next.within;
            onward =
                λ l.
                ⊎_elim (λ end. omega arith) (λ inner. let up = above lower (next.found inner) in omega arith)
                (le_or_lt 64 lower);
            skipped =
                λ n l u.
                ⊎_elim (λ h. absurd (not_both (still_left n (omega arith) h) (next.skipped n (omega arith) u))) (λ h. h)
                (decided (has set n));
            found = λ l. now.inside lower (left_parts lower (next.found l)).0;
          }

      pub left_on : (lower : ℕ) → NextFact rest 0 lower → Left set rest lower
      left_on lower next =
          record {
            inside = λ n h. now.inside n (left_parts n h).0;
            others = λ n h l. let up = (next_of_set lower next).onward (omega arith) in still_left n (omega arith) h;
            next = next;
          }
