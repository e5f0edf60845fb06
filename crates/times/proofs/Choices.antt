-- The right side of an equation, read as its choices: it is at most t exactly if one of them ends by minute t.
-- Assumes nothing.
use Prim.Native.Nat.{ℕ, ◌-◌, ◌<◌}
use mathlib.Core.Path.{◌≡◌, sym, ap}
use mathlib.Core.Bool.{Bool, true, not, ◌&&◌, ◌||◌, or-true}
use mathlib.Core.Logic.{◌⊎◌, inl, inr, ⊎_elim}
use native.Mathlib.Omega.{arith}
use lib.Dec.{eqb, leb}
use lib.ListN.{length}
use borrow.Author.Tests.{eqb-false, ne_eqb, leb-true, le-leb, not-true}
use Rattle.lists.proofs.Bools.{and_left, and_right, or_left, or_right}
use Rattle.facts.specs.FactSet.{has, union, single}
use Rattle.job.specs.Job.{Action, Job}
use Rattle.timeline.specs.Timeline.{hinders}
use Rattle.timeline.proofs.Tests.{and_both, or_cases, or_neither}
use Rattle.times.specs.Time.{Time, at, later, after, choice, least}
use Rattle.times.specs.Earliest.{Table, time_of, action_of, fits_alone, fit_together}
use Rattle.times.specs.Earliest.{adds_both, adds_one, adds_each, by_one, by_two, right_side}
use Rattle.times.specs.Choices.{By, Alone, Together, Reached, at_start, both, one, other, each, each_other}
use Rattle.times.proofs.Times.{by_later_minute, by_earlier, earlier_by_first, earlier_by_second}
use Rattle.times.proofs.Times.{by_later, later_by_lem, by_after, after_by, by_choice, choice_by, by_least, least_by}

module _ (J : Job) (T : Table) (p q t : ℕ) where
  abbrev begin : Time
  begin = choice (has J.start p && has J.start q) (at 0)

  abbrev ones : ℕ → Time
  ones i = by_one J T p q (action_of J i)

  abbrev twos : ℕ → ℕ → Time
  twos i j = by_two J T p q i j

  -- ---- from the right side to a choice
  alone_of : (set i : ℕ) → i < length J.actions → fits_alone J (action_of J i) ≡ true
      → By (after (action_of J i).duration (time_of J T set)) t → Alone J T t set i
  alone_of set i l f h =
      let r = by_after (action_of J i).duration (time_of J T set) t h in
      record { known = l; fits = f; from = r.0; ready = r.1; ends = r.2 }

  read_one : (i : ℕ) → i < length J.actions → By (ones i) t → Reached J T p q t
  read_one i l h =
      let a : Action = action_of J i in
      let f = by_choice (fits_alone J a) _ t h in
      ⊎_elim
      (λ x.
      let r = by_choice (has a.adds p && has a.adds q) _ t x in
      both i (alone_of a.needs i l f.0 r.1) (and_left _ _ r.0) (and_right (has a.adds p) _ r.0))
      (λ x.
      let d = by_choice (not (eqb p q)) _ t x in
      let apart = eqb-false p q (not-true (eqb p q) d.0) in
      ⊎_elim
      (λ y.
      let r = by_choice (has a.adds p && not (has a.deletes q)) _ t y in
      one i apart (alone_of (union a.needs (single q)) i l f.0 r.1) (and_left _ _ r.0)
      (not-true _ (and_right (has a.adds p) _ r.0)))
      (λ y.
      let r = by_choice (has a.adds q && not (has a.deletes p)) _ t y in
      other i apart (alone_of (union a.needs (single p)) i l f.0 r.1) (and_left _ _ r.0)
      (not-true _ (and_right (has a.adds q) _ r.0)))
      (by_earlier (adds_one J T a p q) (adds_one J T a q p) t d.1))
      (by_earlier (adds_both J T a p q) _ t f.1)

  read_two : (i j : ℕ) → i < length J.actions → j < length J.actions → By (twos i j) t → Reached J T p q t
  read_two i j l m h =
      let a : Action = action_of J i in
      let b : Action = action_of J j in
      let clash : Bool = hinders a b || hinders b a in
      let rest : Bool = not clash && fit_together J a b in
      let r = by_choice (not (eqb p q) && (not (eqb i j) && rest)) (adds_each J T a b p q) t h in
      let u = and_right (not (eqb p q)) (not (eqb i j) && rest) r.0 in
      let v = and_right (not (eqb i j)) rest u in
      let none = not-true clash (and_left (not clash) (fit_together J a b) v) in
      let apart = eqb-false p q (not-true _ (and_left (not (eqb p q)) _ r.0)) in
      let adds : Bool = (has a.adds p && has b.adds q) || (has a.adds q && has b.adds p) in
      let s = by_choice (leb b.duration a.duration && adds) _ t r.1 in
      let X : Time = after (a.duration - b.duration) (time_of J T a.needs) in
      let Y : Time = time_of J T (union a.needs b.needs) in
      let x = by_after b.duration (later X Y) t s.1 in
      let y = by_later X Y x.0 x.1 in
      let z = by_after (a.duration - b.duration) (time_of J T a.needs) x.0 y.0 in
      let e = x.2 in
      let g = z.2 in
      let longer = leb-true b.duration a.duration (and_left (leb b.duration a.duration) adds s.0) in
      let pair : Together J T t i j
      = record {
        known = l;
        known_too = m;
        different = eqb-false i j (not-true _ (and_left (not (eqb i j)) rest u));
        spares = or_left (hinders a b) (hinders b a) none;
        spared = or_right (hinders a b) (hinders b a) none;
        fits = and_right (not clash) (fit_together J a b) v;
        longer = longer;
        from = z.0;
        ready = z.1;
        ends = omega arith;
        both_from = x.0;
        both_ready = y.1;
        both_end = x.2;
      } in
      ⊎_elim (λ w. each i j apart pair (and_left _ _ w) (and_right (has a.adds p) _ w))
      (λ w. each_other i j apart pair (and_left _ _ w) (and_right (has a.adds q) _ w))
      (or_cases (has a.adds p && has b.adds q) _ (and_right (leb b.duration a.duration) adds s.0))

  pub reached_of_right_side : By (right_side J T p q) t → Reached J T p q t
  unfolding right_side
  reached_of_right_side h =
      let n : ℕ = length J.actions in
      ⊎_elim
      (λ x.
      let r = by_choice (has J.start p && has J.start q) (at 0) t x in
      at_start (and_left _ _ r.0) (and_right (has J.start p) _ r.0))
      (λ x.
      ⊎_elim (λ y. let r = by_least n ones t y in read_one r.0 r.1 r.2)
      (λ y.
      let r = by_least n (λ i. least n (twos i)) t y in
      let s = by_least n (twos r.0) t r.2 in
      read_two r.0 s.0 r.1 s.1 s.2)
      (by_earlier (least n ones) _ t x))
      (by_earlier begin _ t h)

  -- ---- from a choice to the right side
  by_ones : (i : ℕ) → i < length J.actions → By (ones i) t → By (right_side J T p q) t
  unfolding right_side
  by_ones i l h =
      let n : ℕ = length J.actions in
      earlier_by_second begin _ t (earlier_by_first (least n ones) _ t (least_by n ones t i l h))

  by_alone : (set i : ℕ) → Alone J T t set i → By (after (action_of J i).duration (time_of J T set)) t
  by_alone set i a = after_by (action_of J i).duration (time_of J T set) t a.from a.ready a.ends

  -- (ii), for either fact
  by_second : (set i : ℕ) → Alone J T t set i → (p ≡ q → ⊥)
      → By (adds_one J T (action_of J i) p q) t ⊎ By (adds_one J T (action_of J i) q p) t → By (right_side J T p q) t
  by_second set i a apart h =
      let c : Action = action_of J i in
      by_ones i a.known
      (choice_by (fits_alone J c) _ t a.fits
      (earlier_by_second (adds_both J T c p q) _ t
      (choice_by (not (eqb p q)) _ t (ap not (ne_eqb p q apart))
      (⊎_elim (earlier_by_first (adds_one J T c p q) _ t) (earlier_by_second (adds_one J T c p q) _ t) h))))

  by_pair : (i j : ℕ) → (p ≡ q → ⊥) → (c : Together J T t i j)
      → ((has (action_of J i).adds p && has (action_of J j).adds q)
      || (has (action_of J i).adds q && has (action_of J j).adds p)) ≡ true → By (right_side J T p q) t
  unfolding right_side
  by_pair i j apart c adds =
      let n : ℕ = length J.actions in
      let a : Action = action_of J i in
      let b : Action = action_of J j in
      let X : Time = after (a.duration - b.duration) (time_of J T a.needs) in
      let Y : Time = time_of J T (union a.needs b.needs) in
      let longer = c.longer in
      let e = c.ends in
      let f = c.both_end in
      let u : ℕ = t - b.duration in
      let time : By (after b.duration (later X Y)) t
      = after_by b.duration (later X Y) t u
      (later_by_lem X Y u
      (after_by (a.duration - b.duration) (time_of J T a.needs) u c.from c.ready (omega arith))
      (by_later_minute Y c.both_from u (omega arith) c.both_ready))
      (omega arith) in
      let test : (not (eqb p q) && (not (eqb i j) && (not (hinders a b || hinders b a) && fit_together J a b))) ≡ true
      = and_both (ap not (ne_eqb p q apart))
      (and_both (ap not (ne_eqb i j c.different))
      (and_both (ap not (or_neither c.spares c.spared)) c.fits)) in
      earlier_by_second begin _ t
      (earlier_by_second (least n ones) _ t
      (least_by n (λ i. least n (twos i)) t i c.known
      (least_by n (twos i) t j c.known_too
      (choice_by _ (adds_each J T a b p q) t test
      (choice_by _ (after b.duration (later X Y)) t
      (and_both (le-leb b.duration a.duration longer) adds) time)))))

  pub right_side_of_reached : Reached J T p q t → By (right_side J T p q) t
  unfolding right_side
  right_side_of_reached (at_start hp hq) =
      earlier_by_first begin _ t
      (choice_by (has J.start p && has J.start q) (at 0) t (and_both hp hq) (omega arith))
  right_side_of_reached (both i a hp hq) =
      let c : Action = action_of J i in
      by_ones i a.known
      (choice_by (fits_alone J c) _ t a.fits
      (earlier_by_first (adds_both J T c p q) _ t
      (choice_by (has c.adds p && has c.adds q) _ t (and_both hp hq) (by_alone c.needs i a))))
  right_side_of_reached (one i apart a hp hq) =
      let c : Action = action_of J i in
      by_second (union c.needs (single q)) i a apart
      (inl (choice_by (has c.adds p && not (has c.deletes q)) _ t (and_both hp (ap not hq))
      (by_alone (union c.needs (single q)) i a)))
  right_side_of_reached (other i apart a hq hp) =
      let c : Action = action_of J i in
      by_second (union c.needs (single p)) i a apart
      (inr (choice_by (has c.adds q && not (has c.deletes p)) _ t (and_both hq (ap not hp))
      (by_alone (union c.needs (single p)) i a)))
  right_side_of_reached (each i j apart c hp hq) = by_pair i j apart c (rw (hp, hq))
  right_side_of_reached (each_other i j apart c hq hp) =
      by_pair i j apart c (rw (hq, hp) (or-true (has (action_of J i).adds p && has (action_of J j).adds q)))

-- a choice for p and q is one for q and p
pub reached_swap : {J : Job} {T : Table} {p q t : ℕ} → Reached J T p q t → Reached J T q p t
reached_swap (at_start hp hq) = at_start hq hp
reached_swap (both i a hp hq) = both i a hq hp
reached_swap (one i apart a hp hq) = other i (λ e. apart (sym e)) a hp hq
reached_swap (other i apart a hq hp) = one i (λ e. apart (sym e)) a hq hp
reached_swap (each i j apart c hp hq) = each_other i j (λ e. apart (sym e)) c hp hq
reached_swap (each_other i j apart c hq hp) = each i j (λ e. apart (sym e)) c hq hp
