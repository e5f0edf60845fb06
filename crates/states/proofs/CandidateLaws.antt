-- Sets of actions, gone over from one to the next: candidates.
-- Assumes nothing.
use Prim.Native.Nat.{ℕ, ◌+◌, ◌-◌, ◌/◌, ◌^◌, ◌≤◌, ◌<◌}
use mathlib.Core.Path.{◌≡◌, refl, ap, ◌∙◌}
use mathlib.Core.Bool.{true, not}
use mathlib.Core.Logic.{⊎_elim}
use mathlib.Core.List.{List}
use native.Mathlib.Nat.{eq-or-lt_of_le}
use native.Mathlib.Omega.{arith}
use lib.Bits.{bit_and, and_le_r}
use borrow.Author.Tests.{eqb-true, not-false}
use Rattle.lists.proofs.Below.{below_none}
use Rattle.facts.specs.FactSet.{has, single, subset, Subset, NextFact}
use Rattle.facts.proofs.Membership.{has_shifted, has_zero, some_member, subset_decides, word_within}
use Rattle.facts.proofs.SetLaws.{in_union_left, in_union_right, in_union_cases}
use Rattle.timeline.proofs.Tests.{not_both, false_unless, le_or_lt}
use Rattle.times.proofs.Singles.{in_single, only_in_single}
use Rattle.tables.specs.declared.Frame.{Frame}
use Rattle.states.specs.declared.state.State.{State}
use Rattle.states.specs.States.{WithCandidate, Candidates}

-- a member up to the next one from a number on is below that number, or is the next one
pub up_to_next : {X : Type 0} (set from next a : ℕ) → NextFact set from next → a < next + 1 → has set a ≡ true
    → (a < from → X) → (a ≡ next → X) → X
up_to_next set from next a n l member before here =
    ⊎_elim (λ after. ⊎_elim here (λ less. not_both member (n.skipped a after less)) (eq-or-lt_of_le (omega arith))) before
    (le_or_lt from a)

-- ---- candidates
module _ (sets numbers : List ℕ) (frame : Frame) (st : State) (undecided : ℕ) where
  pub candidates_at_first : (from : ℕ) → from ≡ 0 → Candidates sets numbers frame st undecided from 0
  candidates_at_first from z =
      record {
        within = λ a h. not_both h (has_zero a);
        may = λ a h. not_both h (has_zero a);
        barred = λ a l known member out. absurd (omega arith);
      }

  pub candidates_on : (from k found r : ℕ) → k < 64 → NextFact undecided from k
      → WithCandidate sets numbers frame st k found r → Candidates sets numbers frame st undecided from found
      → Candidates sets numbers frame st undecided (k + 1) r
  candidates_on from k found r few n with before =
      record {
        within = λ a h.
            ⊎_elim (λ same. before.within a (rw same.0 at h))
            (λ more.
            ⊎_elim (λ e. let same = only_in_single k a e in rw same (n.found few)) (before.within a)
            (in_union_cases (single k) found a (rw more.0 at h)))
            with;
        may = λ a h.
            ⊎_elim (λ same. before.may a (rw same.0 at h))
            (λ more.
            ⊎_elim (λ e. let same = only_in_single k a e in rw same (more.1, more.2)) (before.may a)
            (in_union_cases (single k) found a (rw more.0 at h)))
            with;
        barred = λ a l known member out.
            up_to_next undecided from k a n l member
            (λ less.
            before.barred a less known member
            (⊎_elim (λ same. rw same.0 at out)
            (λ more.
            false_unless (has found a)
            (λ h. not_both (ap (λ (set : ℕ). has set a) more.0 ∙ in_union_right (single k) found a h) out))
            with))
            (λ same.
            rw same
            (⊎_elim (λ w. w.1 (rw same at known))
            (λ more.
            not_both
            (ap (λ (set : ℕ). has set k) more.0 ∙ in_union_left (single k) found k (in_single k))
            (rw same at out))
            with));
      }

-- ---- a set that is not empty has a first member
pub first_member : (set next : ℕ) → 0 < set → set < 2 ^ 64 → NextFact set 0 next → next < 64
first_member set next some word n =
    let m = some_member set (λ e. omega arith) in
    let below : m.0 < 64 =
    ⊎_elim (λ above. not_both m.1 (word_within set word m.0 above)) (λ l. l) (le_or_lt 64 m.0) in
    ⊎_elim (λ late. not_both m.1 (n.skipped m.0 (omega arith) (omega arith))) (λ l. l) (le_or_lt 64 next)

-- ---- sets as numbers
pub subset_at_most : (a b : ℕ) → Subset a b → a ≤ b
unfolding subset
subset_at_most a b inside =
    let same = eqb-true (bit_and a b) a ((subset_decides a b).complete inside) in
    let most = and_le_r a b in
    omega arith

-- ---- all actions
-- the set of all ones has every fact below 64
in_all_facts : (n : ℕ) → n < 64 → has 18446744073709551615 n ≡ true
unfolding has
in_all_facts n l =
    not-false (has 18446744073709551615 n) (below_none 64 (λ k. not (has 18446744073709551615 k)) refl n l)

-- shifted down, it has those below the number that is left
pub in_first_facts : (count a : ℕ) → count ≤ 64 → a < count → has (18446744073709551615 / 2 ^ (64 - count)) a ≡ true
in_first_facts count a few l =
    has_shifted 18446744073709551615 (64 - count) a ∙ in_all_facts (64 - count + a) (omega arith)
