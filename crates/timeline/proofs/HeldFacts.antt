-- The facts that hold at a minute, by three laws: added then, kept from the minute before, and where they come from.
-- Assumes nothing.
use Prim.Native.Nat.{ℕ, zero, suc, ◌≤◌}
use mathlib.Core.Path.{◌≡◌, refl, sym, ap, ap₂, ◌∙◌}
use mathlib.Core.Bool.{Bool, true, false, cond, not, ◌&&◌, ◌||◌, or-true}
use mathlib.Core.Logic.{◌⊎◌, inl, inr, ⊎_elim}
use mathlib.Core.List.{List, [], ◌∷◌}
use native.Mathlib.Nat.{eq-or-lt_of_le}
use native.Mathlib.Omega.{arith}
use lib.Dec.{eqb}
use borrow.Author.Tests.{eqb-true, eq-eqb, not-true}
use Rattle.lists.specs.Lists.{any}
use Rattle.lists.proofs.Bools.{and_left, and_right}
use Rattle.facts.specs.FactSet.{has, union, difference}
use Rattle.facts.proofs.Membership.{has_union, has_difference, has_zero, same_members}
use Rattle.timeline.specs.Step.{Step, union_of}
use Rattle.timeline.specs.Timeline.{end, if_stops, deleted_at, added_at, held}
use Rattle.timeline.specs.Places.{Place, Member, EachStep}
use Rattle.timeline.proofs.Tests.{decided, not_both, false_unless, and_both, or_cases, same_test}
use Rattle.timeline.proofs.Places.{any_at, find_any, any_of_none, any_members}
use Rattle.timeline.proofs.Places.{split_place, place_wider, largest_at_least}

-- a step of P stops at minute t and adds fact n
pub record Added (P : List Step) (t n : ℕ) : Type 0 where
  pub by : Step
  pub rest : List Step
  pub place : Place by rest P
  pub stops : by.stop ≡ t
  pub adds : has by.action.adds n ≡ true

-- no step of P that stops at minute t deletes fact n
abbrev pub NotDeleted : List Step → ℕ → ℕ → Type 0
NotDeleted P t n = EachStep (λ x. x.stop ≡ t → has x.action.deletes n ≡ true → ⊥) P

-- ---- a fact of a set of the steps that stop at a minute
pub has_union_of : (f : Step → ℕ) (n : ℕ) (P : List Step) → has (union_of f P) n ≡ any (λ x. has (f x) n) P
unfolding any
has_union_of f n [] = has_zero n
has_union_of f n (x ∷ P) =
    has_union (f x) (union_of f P) n ∙ ap (λ (b : Bool). has (f x) n || b) (has_union_of f n P)

stops_and_has : (t set n : ℕ) (x : Step) → has (if_stops t set x) n ≡ true → (x.stop ≡ t) × (has set n ≡ true)
stops_and_has t set n x h = go (eqb x.stop t) refl h
  where
    go : (b : Bool) → eqb x.stop t ≡ b → has (cond b set 0) n ≡ true → (x.stop ≡ t) × (has set n ≡ true)
    go true e k = (eqb-true x.stop t e, k)
    go false e k = not_both k (has_zero n)

has_when_stops : (t set n : ℕ) (x : Step) → x.stop ≡ t → has set n ≡ true → has (if_stops t set x) n ≡ true
has_when_stops t set n x e h = rw (eq-eqb x.stop t e) h

module _ (S : ℕ) (P : List Step) (t n : ℕ) where
  abbrev adding : Step → Bool
  adding x = has (if_stops (suc t) x.action.adds x) n

  abbrev deleting : Step → Bool
  deleting x = has (if_stops (suc t) x.action.deletes x) n

  held_next : has (held S P (suc t)) n ≡ ((has (held S P t) n && not (any deleting P)) || any adding P)
  held_next =
      has_union (difference (held S P t) (deleted_at (suc t) P)) (added_at (suc t) P) n
      ∙ ap₂ ◌||◌
      (has_difference (held S P t) (deleted_at (suc t) P) n
      ∙ ap (λ (b : Bool). has (held S P t) n && not b) (has_union_of _ n P))
      (has_union_of _ n P)

  pub held_when_added : Added P (suc t) n → has (held S P (suc t)) n ≡ true
  held_when_added a =
      held_next
      ∙ ap (λ (b : Bool). (has (held S P t) n && not (any deleting P)) || b)
      (any_at adding a.place (has_when_stops (suc t) a.by.action.adds n a.by a.stops a.adds))
      ∙ or-true (has (held S P t) n && not (any deleting P))

  pub held_when_kept : has (held S P t) n ≡ true → NotDeleted P (suc t) n → has (held S P (suc t)) n ≡ true
  held_when_kept h kept = held_next ∙ rw (h, none)
    where
      none : any deleting P ≡ false
      none =
          any_of_none deleting P
          (λ x Q i.
          false_unless (deleting x)
          (λ d. let w = stops_and_has (suc t) x.action.deletes n x d in kept x Q i w.0 w.1))

  pub held_comes_from : has (held S P (suc t)) n ≡ true
      → Added P (suc t) n ⊎ ((has (held S P t) n ≡ true) × NotDeleted P (suc t) n)
  held_comes_from h =
      ⊎_elim
      (λ e.
      inr (
        and_left (has (held S P t) n) _ e,
        λ x Q i s d.
            not_both
            (any_at deleting i (has_when_stops (suc t) x.action.deletes n x s d))
            (not-true (any deleting P) (and_right (has (held S P t) n) _ e)),
      ))
      (λ e.
      let r = find_any adding P e in
      let w = stops_and_has (suc t) r.0.action.adds n r.0 r.3 in
      inl (record { by = r.0; rest = r.1; place = r.2; stops = w.0; adds = w.1 }))
      (or_cases (has (held S P t) n && not (any deleting P)) (any adding P) (sym held_next ∙ h))

-- ---- nothing changes after the end
module _ (S : ℕ) (P : List Step) where
  end_to_later : (n t : ℕ) → end P ≤ t → has (held S P (end P)) n ≡ true → has (held S P t) n ≡ true
  end_to_later n zero l h = let e : end P ≡ 0 = omega arith in rw e at h
  end_to_later n (suc t) l h =
      ⊎_elim (λ e. rw e at h)
      (λ b.
      held_when_kept S P t n (end_to_later n t (omega arith) h)
      (λ x Q i s d. let z = largest_at_least (λ y. y.stop) i in omega arith))
      (eq-or-lt_of_le l)

  later_to_end : (n t : ℕ) → end P ≤ t → has (held S P t) n ≡ true → has (held S P (end P)) n ≡ true
  later_to_end n zero l h = let e : end P ≡ 0 = omega arith in rw e h
  later_to_end n (suc t) l h =
      ⊎_elim (λ e. rw e h)
      (λ b.
      ⊎_elim (λ a. let z = largest_at_least (λ y. y.stop) a.place in let s = a.stops in absurd (omega arith))
      (λ c. later_to_end n t (omega arith) c.0)
      (held_comes_from S P t n h))
      (eq-or-lt_of_le l)

  pub held_after_end : (t : ℕ) → end P ≤ t → held S P t ≡ held S P (end P)
  held_after_end t l =
      same_members (held S P t) (held S P (end P))
      (λ n. same_test (has (held S P t) n) _ (later_to_end n t l) (end_to_later n t l))

-- ---- held facts depend on the members of a list alone
pub held_same_members : (S : ℕ) (P R : List Step) → EachStep (λ x. Member x R) P → EachStep (λ x. Member x P) R
    → (t : ℕ) → held S P t ≡ held S R t
held_same_members S P R into back zero = refl
held_same_members S P R into back (suc t) =
    ap₂ union (ap₂ difference (held_same_members S P R into back t) (same_union _)) (same_union _)
  where
    same_union : (f : Step → ℕ) → union_of f P ≡ union_of f R
    same_union f =
        same_members (union_of f P) (union_of f R)
        (λ n.
        has_union_of f n P
        ∙ same_test (any (λ x. has (f x) n) P) _ (any_members (λ x. has (f x) n) P R into)
        (any_members (λ x. has (f x) n) R P back)
        ∙ sym (has_union_of f n R))

-- ---- added, or not
pub added_or_not : (P : List Step) (t n : ℕ) → Added P t n ⊎ (Added P t n → ⊥)
added_or_not P t n = ⊎_elim (λ e. inl (found e)) (λ e. inr (nowhere e)) (decided (any test P))
  where
    test : Step → Bool
    test x = eqb x.stop t && has x.action.adds n

    found : any test P ≡ true → Added P t n
    found e =
        let r = find_any test P e in
        record {
          by = r.0;
          rest = r.1;
          place = r.2;
          stops = eqb-true r.0.stop t (and_left _ _ r.3);
          adds = and_right (eqb r.0.stop t) _ r.3;
        }

    nowhere : any test P ≡ false → Added P t n → ⊥
    nowhere e a = not_both (any_at test a.place (and_both (eq-eqb a.by.stop t a.stops) a.adds)) e

-- ---- another list of steps that has the rest of P
module _ {x : Step} {Q P : List Step} (i : Place x Q P) where
  pub added_wider : (t n : ℕ) → Added Q t n → Added P t n
  added_wider t n a =
      let w = place_wider i a.place in
      record { by = a.by; rest = w.0; place = w.1; stops = a.stops; adds = a.adds }

  -- a fact that P adds is added by x or by the rest
  pub added_by : (t n : ℕ) → (a : Added P t n) → (a.by ≡ x) ⊎ Added Q t n
  added_by t n a =
      ⊎_elim (λ e. inl e)
      (λ r. inr (record { by = a.by; rest = r.0; place = r.1; stops = a.stops; adds = a.adds }))
      (split_place i a.place)

  pub not_deleted_rest : (t n : ℕ) → NotDeleted P t n → NotDeleted Q t n
  not_deleted_rest t n kept y R j = let w = place_wider i j in kept y w.0 w.1

  pub not_deleted_with : (t n : ℕ) → NotDeleted Q t n → (x.stop ≡ t → has x.action.deletes n ≡ true → ⊥)
      → NotDeleted P t n
  not_deleted_with t n kept own y R j s d =
      ⊎_elim (λ e. own (rw e at s) (rw e at d)) (λ r. kept y r.0 r.1 s d) (split_place i j)
