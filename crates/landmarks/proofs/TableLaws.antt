-- Landmarks in the table: unions and sums over the facts of a set, fact by fact; and what the test of the table says.
-- Assumes nothing.
use Prim.Native.Nat.{ℕ, zero, suc, ◌+◌, ◌≤◌, ◌<◌}
use mathlib.Core.Path.{◌≡◌, refl, sym, ap, ◌∙◌}
use mathlib.Core.Bool.{Bool, true, false, cond, not}
use mathlib.Core.Logic.{inl, inr, ⊎_elim}
use mathlib.Core.List.{List}
use native.Mathlib.Nat.{eq-or-lt_of_le}
use native.Mathlib.Omega.{arith}
use lib.ListN.{length, set, length-set}
use lib.Seq.{get_or-set_other}
use Rattle.facts.specs.FactSet.{has, union, single, Subset, NextFact}
use Rattle.facts.proofs.Membership.{has_zero}
use Rattle.facts.proofs.SetLaws.{in_union_left, in_union_right, in_union_cases, union_zero_left}
use Rattle.job.specs.Job.{Job}
use Rattle.timeline.proofs.Tests.{not_both, decided}
use Rattle.times.specs.Earliest.{action_of}
use Rattle.times.proofs.Singles.{only_in_single}
use Rattle.tables.specs.Tables.{DescribesEach, needs_at}
use Rattle.landmarks.specs.Landmarks.{Landmarks, marks_of, sum_over}
use Rattle.landmarks.specs.Tables.{mark_at, KeptBefore, Begun, ByAdders, ClosedAt, Closed}
use Rattle.landmarks.proofs.AddedOnTheWay.{mark_of}

-- ---- over the facts of a set, from one to the next
module _ (marks : ℕ → ℕ) (set : ℕ) where
  marks_skip : (n m : ℕ) → n ≤ m → ((k : ℕ) → n ≤ k → k < m → has set k ≡ false)
      → marks_of marks m set ≡ marks_of marks n set
  unfolding marks_of
  marks_skip n zero l none = let z : n ≡ 0 = omega arith in rw z
  marks_skip n (suc m) l none =
      ⊎_elim (λ e. rw e)
      (λ less.
      let out = none m (omega arith) (omega arith) in
      ap (λ (b : Bool). union (cond b (marks m) 0) (marks_of marks m set)) out ∙ union_zero_left (marks_of marks m set)
      ∙ marks_skip n m (omega arith) (λ k a b. none k a (omega arith)))
      (eq-or-lt_of_le l)

  pub marks_first : (n : ℕ) → n ≡ 0 → 0 ≡ marks_of marks n set
  unfolding marks_of
  marks_first n none = rw none

  -- the next fact from n on is q; none is left from n on
  pub marks_on : (n q : ℕ) → n ≤ 64 → q < 64 → NextFact set n q
      → marks_of marks (q + 1) set ≡ union (marks q) (marks_of marks n set)
  unfolding marks_of
  marks_on n q within l next =
      let e : q + 1 ≡ suc q = omega arith in
      ap (λ (n : ℕ). marks_of marks n set) e
      ∙ ap (λ (b : Bool). union (cond b (marks q) 0) (marks_of marks q set)) (next.found l)
      ∙ ap (union (marks q)) (marks_skip n q (next.onward within) next.skipped)

  pub marks_rest : (n : ℕ) → n ≤ 64 → NextFact set n 64 → marks_of marks 64 set ≡ marks_of marks n set
  marks_rest n within next = marks_skip n 64 within next.skipped

module _ (share : ℕ → ℕ) (set : ℕ) where
  sum_skip : (n m : ℕ) → n ≤ m → ((k : ℕ) → n ≤ k → k < m → has set k ≡ false)
      → sum_over share m set ≡ sum_over share n set
  unfolding sum_over
  sum_skip n zero l none = let z : n ≡ 0 = omega arith in rw z
  sum_skip n (suc m) l none =
      ⊎_elim (λ e. rw e)
      (λ less.
      let nothing : cond (has set m) (share m) 0 ≡ 0 = rw (none m (omega arith) (omega arith)) in
      let rest = sum_skip n m (omega arith) (λ k a b. none k a (omega arith)) in
      omega arith)
      (eq-or-lt_of_le l)

  pub sum_first : (n : ℕ) → n ≡ 0 → 0 ≡ sum_over share n set
  unfolding sum_over
  sum_first n none = rw none

  pub sum_on : (n q : ℕ) → n ≤ 64 → q < 64 → NextFact set n q
      → sum_over share (q + 1) set ≡ share q + sum_over share n set
  unfolding sum_over
  sum_on n q within l next =
      let e : q + 1 ≡ suc q = omega arith in
      ap (λ (n : ℕ). sum_over share n set) e
      ∙ ap (λ (b : Bool). cond b (share q) 0 + sum_over share q set) (next.found l)
      ∙ ap (λ (rest : ℕ). share q + rest) (sum_skip n q (next.onward within) next.skipped)

  pub sum_rest : (n : ℕ) → n ≤ 64 → NextFact set n 64 → sum_over share 64 set ≡ sum_over share n set
  sum_rest n within next = sum_skip n 64 within next.skipped

-- ---- entries before a place stay
pub kept_at_first : (at n : ℕ) (xs : List ℕ) → length xs ≡ n → KeptBefore at n xs xs
kept_at_first at n xs size = record { size = size; same = λ k l. refl }

pub kept_when_set : (at n : ℕ) (xs ys : List ℕ) (k v : ℕ) → at ≤ k → KeptBefore at n xs ys
    → KeptBefore at n xs (set ys k v)
kept_when_set at n xs ys k v l kept =
    record {
      size = length-set ys k v ∙ kept.size;
      same = λ j m. let other : j ≡ k → ⊥ = λ e. omega arith in get_or-set_other ys k j v 0 other ∙ kept.same j m;
    }

pub kept_again : (at n : ℕ) (xs ys zs : List ℕ) → KeptBefore at n xs ys → KeptBefore at n ys zs → KeptBefore at n xs zs
kept_again at n xs ys zs a b = record { size = b.size; same = λ k l. b.same k l ∙ a.same k l }

-- ---- the test of one fact
module _ (sets : List ℕ) (actions start q : ℕ) where
  pub closed_at_hand : mark_at sets q ≡ 0 → ClosedAt sets actions start q
  closed_at_hand none =
      record {
        at_hand = λ here. none;
        others = λ i l adds n h. not_both (ap (λ (set : ℕ). has set n) (sym none) ∙ h) (has_zero n);
      }

  pub closed_by_adders : has start q ≡ false → (r : ℕ) → ByAdders sets actions q r
      → Subset (mark_at sets q) (union (single q) r) → ClosedAt sets actions start q
  closed_by_adders away r adders inside =
      record {
        at_hand = λ here. not_both here away;
        others = λ i l adds n h.
            ⊎_elim (in_union_left (single q) _ n) (λ e. in_union_right (single q) _ n (adders i l adds n e))
            (in_union_cases (single q) r n (inside n h));
      }

-- a table of nothing passes
pub closed_when_empty : (xs ys : List ℕ) (actions start : ℕ) → Begun 64 start 0 xs ys → Closed ys actions start
closed_when_empty xs ys actions start begun q l =
    closed_at_hand ys actions start q (begun.put q l ∙ either (not (has start q)))
  where
    either : (b : Bool) → ◌≡◌ {A = ℕ} (cond b 0 0) 0
    either true = refl
    either false = refl

-- ---- what the test says
pub landmarks_when_closed : (J : Job) (sets numbers : List ℕ) (actions start : ℕ) → length J.actions ≡ actions
    → DescribesEach J sets numbers actions → Closed sets actions start
    → Landmarks J start 64 (mark_at sets)
landmarks_when_closed J sets numbers actions start count described closed =
    record {
      fresh = λ q p below mark.
          ⊎_elim
          (λ here.
          not_both (ap (λ (set : ℕ). has set p) (sym ((closed q below).at_hand here)) ∙ mark) (has_zero p))
          (λ not. not)
          (decided (has start q));
      why = λ q p below mark.
          ⊎_elim (λ own. inl (only_in_single q p own))
          (λ other. inr (λ i known adds. through q p below mark other i known adds))
          (decided (has (single q) p));
    }
  where
    through : (q p : ℕ) → q < 64 → has (mark_at sets q) p ≡ true → has (single q) p ≡ false → (i : ℕ)
        → i < length J.actions → has (action_of J i).adds q ≡ true
        → (m : ℕ) × (m < 64) × (has (action_of J i).needs m ≡ true) × (has (mark_at sets m) p ≡ true)
    through q p below mark other i known adds =
        let inside : i < actions = omega arith in
        let d = described i inside in
        let in_adds = ap (λ (set : ℕ). has set q) d.adds ∙ adds in
        let m = ⊎_elim (λ own. not_both own other) (mark_of (mark_at sets) 64 (needs_at sets i) p)
        (in_union_cases (single q) (marks_of (mark_at sets) 64 (needs_at sets i)) p
        ((closed q below).others i inside in_adds p mark)) in
        (m.0, m.1, ap (λ (set : ℕ). has set m.0) (sym d.needs) ∙ m.2, m.3)
