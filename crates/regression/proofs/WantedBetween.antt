-- What is wanted at minute s, from what is wanted at a later minute t, where no step starts in between.
-- Assumes nothing.
use Prim.Native.Nat.{ℕ, zero, suc, ◌+◌, ◌-◌, ◌<◌, ◌≤◌}
use mathlib.Core.Path.{◌≡◌, sym}
use mathlib.Core.Bool.{true, ◌&&◌}
use mathlib.Core.Logic.{◌⊎◌, inl, inr, ⊎_elim}
use mathlib.Core.List.{List}
use native.Mathlib.Nat.{eq-or-lt_of_le}
use native.Mathlib.Omega.{arith}
use lib.Dec.{leb, ltb}
use borrow.Author.Tests.{ltb-true, lt-ltb, leb-true, le-leb}
use Rattle.lists.proofs.Bools.{and_left, and_right}
use Rattle.facts.specs.FactSet.{has, union, difference}
use Rattle.facts.proofs.Membership.{same_members}
use Rattle.facts.proofs.SetLaws.{in_union_left, in_union_right, in_union_cases, in_difference, in_difference_parts}
use Rattle.timeline.specs.Step.{Step}
use Rattle.timeline.specs.Places.{Place, EachStep}
use Rattle.timeline.proofs.Tests.{not_both, false_unless, and_both, same_test}
use Rattle.timeline.proofs.HeldFacts.{Added}
use Rattle.regression.specs.Wanted.{needed_at, wanted_at, added_between}
use Rattle.regression.proofs.Gathered.{in_cond, in_cond_parts, in_union_of, in_union_of_from}
use Rattle.regression.proofs.WantedFacts.{Needed, in_needed, needed_from}
use Rattle.regression.proofs.WantedFacts.{wanted_when_needed, wanted_when_not_added, wanted_comes_from}

-- a step of P stops after minute s and by minute t, and adds fact n
pub record AddedBetween (P : List Step) (s t n : ℕ) : Type 0 where
  pub by : Step
  pub rest : List Step
  pub place : Place by rest P
  pub after : s < by.stop
  pub until : by.stop ≤ t
  pub adds : has by.action.adds n ≡ true

module _ (P : List Step) (s t n : ℕ) where
  in_added_between : AddedBetween P s t n → has (added_between s t P) n ≡ true
  in_added_between a =
      let stop = a.by.stop in
      in_union_of _ n a.place
      (in_cond (ltb s stop && leb stop t) a.by.action.adds n
      (and_both (lt-ltb s stop a.after) (le-leb stop t a.until))
      a.adds)

  added_between_from : has (added_between s t P) n ≡ true → AddedBetween P s t n
  added_between_from h =
      let r = in_union_of_from _ n P h in
      let stop = r.0.stop in
      let w = in_cond_parts (ltb s stop && leb stop t) r.0.action.adds n r.3 in
      record {
        by = r.0;
        rest = r.1;
        place = r.2;
        after = ltb-true s stop (and_left (ltb s stop) _ w.0);
        until = leb-true stop t (and_right (ltb s stop) _ w.0);
        adds = w.1;
      }

  -- added at the first minute after s, or later
  neither_added : (Added P (suc s) n → ⊥) → (AddedBetween P (suc s) t n → ⊥) → AddedBetween P s t n → ⊥
  neither_added first others a =
      ⊎_elim
      (λ e. first (record { by = a.by; rest = a.rest; place = a.place; stops = sym e; adds = a.adds }))
      (λ l.
      others
      (record { by = a.by; rest = a.rest; place = a.place; after = l; until = a.until; adds = a.adds }))
      (eq-or-lt_of_le a.after)

module _ (goal : ℕ) (P : List Step) (T t : ℕ) (in_time : t ≤ T) where
  -- no step of P starts after minute s and before t
  abbrev NoStart : ℕ → Type 0
  NoStart s = EachStep (λ x. s < x.start → x.start < t → ⊥) P

  -- what is wanted at s is needed then, or wanted at t and not added in between
  pub wanted_from_later : (s n : ℕ) → s < t → NoStart s → has (wanted_at goal P T s) n ≡ true
      → Needed P s n ⊎ ((has (wanted_at goal P T t) n ≡ true) × (AddedBetween P s t n → ⊥))
  wanted_from_later s n less none h = go (t - suc s) s (omega arith) none h
    where
      go : (k s : ℕ) → suc k + s ≡ t → NoStart s → has (wanted_at goal P T s) n ≡ true
          → Needed P s n ⊎ ((has (wanted_at goal P T t) n ≡ true) × (AddedBetween P s t n → ⊥))
      go zero s e none h =
          let z : suc s ≡ t = omega arith in
          ⊎_elim (λ d. inl d)
          (λ c.
          inr (
            rw z at c.0,
            neither_added P s t n c.1 (λ a. let x = a.after in let y = a.until in omega arith),
          ))
          (wanted_comes_from goal P T s n (omega arith) h)
      go (suc k) s e none h =
          ⊎_elim (λ d. inl d)
          (λ c.
          ⊎_elim (λ d. let z = d.starts in absurd (none d.by d.rest d.place (omega arith) (omega arith)))
          (λ later. inr (later.0, neither_added P s t n c.1 later.1))
          (go k (suc s) (omega arith) (λ x Q i a b. none x Q i (omega arith) b) c.0))
          (wanted_comes_from goal P T s n (omega arith) h)

  pub wanted_unless_added_between : (s n : ℕ) → s ≤ t → has (wanted_at goal P T t) n ≡ true
      → (AddedBetween P s t n → ⊥) → has (wanted_at goal P T s) n ≡ true
  wanted_unless_added_between s n less h none = go (t - s) s (omega arith) none
    where
      go : (k s : ℕ) → k + s ≡ t → (AddedBetween P s t n → ⊥) → has (wanted_at goal P T s) n ≡ true
      go zero s e none = let z : s ≡ t = omega arith in rw z h
      go (suc k) s e none =
          wanted_when_not_added goal P T s n (omega arith)
          (go k (suc s) (omega arith)
          (λ a.
          let x = a.after in
          none
          (record {
            by = a.by;
            rest = a.rest;
            place = a.place;
            after = omega arith;
            until = a.until;
            adds = a.adds;
          })))
          (λ a.
          let z = a.stops in
          none
          (record {
            by = a.by;
            rest = a.rest;
            place = a.place;
            after = omega arith;
            until = omega arith;
            adds = a.adds;
          }))

  -- the same as an equation of sets
  pub wanted_back_to : (s : ℕ) → s < t → NoStart s
      → wanted_at goal P T s ≡ union (difference (wanted_at goal P T t) (added_between s t P)) (needed_at s P)
  wanted_back_to s less none =
      same_members (wanted_at goal P T s) (union rest (needed_at s P))
      (λ n. same_test (has (wanted_at goal P T s) n) _ (to n) (from n))
    where
      rest : ℕ
      rest = difference (wanted_at goal P T t) (added_between s t P)

      to : (n : ℕ) → has (wanted_at goal P T s) n ≡ true → has (union rest (needed_at s P)) n ≡ true
      to n h =
          ⊎_elim (λ d. in_union_right rest (needed_at s P) n (in_needed P s n d))
          (λ c.
          in_union_left rest (needed_at s P) n
          (in_difference (wanted_at goal P T t) (added_between s t P) n c.0
          (false_unless _ (λ a. c.1 (added_between_from P s t n a)))))
          (wanted_from_later s n less none h)

      from : (n : ℕ) → has (union rest (needed_at s P)) n ≡ true → has (wanted_at goal P T s) n ≡ true
      from n h =
          ⊎_elim
          (λ r.
          let parts = in_difference_parts (wanted_at goal P T t) (added_between s t P) n r in
          wanted_unless_added_between s n (omega arith) parts.0
          (λ a. not_both (in_added_between P s t n a) parts.1))
          (λ d. wanted_when_needed goal P T s n (omega arith) (needed_from P s n d))
          (in_union_cases rest (needed_at s P) n h)
