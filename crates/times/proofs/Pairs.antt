-- At a solution the time of two facts as a set is their entry, since it is no earlier than that of each by itself.
-- Assumes nothing.
use Prim.Native.Nat.{ℕ, ◌+◌, ◌<◌, ◌≤◌}
use mathlib.Core.Path.{◌≡◌, sym, ap}
use mathlib.Core.Bool.{true, false, not}
use mathlib.Core.Logic.{◌⊎◌, inl, inr, ⊎_elim}
use native.Mathlib.Nat.{le_refl}
use native.Mathlib.Omega.{arith}
use lib.ListN.{length, get_or}
use borrow.Author.Tests.{ltb-false, le-ltb, not-true}
use Rattle.lists.proofs.Below.{below_none, none_below}
use Rattle.facts.specs.FactSet.{has, union, single}
use Rattle.facts.proofs.SetLaws.{in_union_left, in_union_right}
use Rattle.job.specs.Job.{Action, Job}
use Rattle.job.specs.Valid.{over}
use Rattle.times.specs.Earliest.{Table, time_of, action_of, fits_alone, fit_together, Solves}
use Rattle.times.specs.Choices.{By, Alone, Reached, at_start, both, one, other, each, each_other}
use Rattle.times.proofs.Times.{by_ext, by_same, by_later_minute, by_time_of, time_of_by, time_of_part}
use Rattle.times.proofs.Singles.{in_single, only_in_single, in_with, in_with_cases}
use Rattle.times.proofs.Choices.{reached_of_right_side, right_side_of_reached, reached_swap}

-- of two actions within the pools together, each is by itself
fit_alone : (J : Job) (a b : Action) → fit_together J a b ≡ true → (fits_alone J a ≡ true) × (fits_alone J b ≡ true)
fit_alone J a b h =
    (ap not (none_below (length J.pools) _ first), ap not (none_below (length J.pools) _ second))
  where
    within : (k : ℕ) → k < length J.pools → get_or a.pools k 0 + get_or b.pools k 0 ≤ get_or J.pools k 0
    within k l = ltb-false (get_or J.pools k 0) _ (below_none (length J.pools) _ (not-true _ h) k l)

    first : (k : ℕ) → k < length J.pools → over (get_or J.pools k 0) (get_or a.pools k 0) ≡ false
    first k l = let w = within k l in le-ltb (get_or J.pools k 0) (get_or a.pools k 0) (omega arith)

    second : (k : ℕ) → k < length J.pools → over (get_or J.pools k 0) (get_or b.pools k 0) ≡ false
    second k l = let w = within k l in le-ltb (get_or J.pools k 0) (get_or b.pools k 0) (omega arith)

module _ (J : Job) (T : Table) (solves : Solves J T) where
  -- one action with a smaller set to wait for
  alone_part : (t a b i : ℕ) → ((n : ℕ) → has a n ≡ true → has b n ≡ true) → Alone J T t b i → Alone J T t a i
  alone_part t a b i inside c =
      record {
        known = c.known;
        fits = c.fits;
        from = c.from;
        ready = time_of_part J T a b c.from inside c.ready;
        ends = c.ends;
      }

  of_both : (t p i : ℕ) → p < J.facts → Alone J T t (action_of J i).needs i → has (action_of J i).adds p ≡ true
      → By (T p p) t
  of_both t p i l a h =
      by_same t (sym (solves p p (le_refl p) l)) (right_side_of_reached J T p p t (both i a h h))

  first_no_later : (p q t : ℕ) → p < J.facts → Reached J T p q t → By (T p p) t
  first_no_later p q t l (at_start hp hq) =
      by_same t (sym (solves p p (le_refl p) l)) (right_side_of_reached J T p p t (at_start hp hp))
  first_no_later p q t l (both i a hp hq) = of_both t p i l a hp
  first_no_later p q t l (one i apart a hp hq) =
      of_both t p i l (alone_part t _ _ i (in_union_left (action_of J i).needs (single q)) a) hp
  first_no_later p q t l (other i apart a hq hp) =
      let e = a.ends in
      let h = in_with (action_of J i).needs p in
      by_later_minute (T p p) a.from t (omega arith)
      (by_time_of J T (union (action_of J i).needs (single p)) a.from a.ready p p (le_refl p) l h h)
  first_no_later p q t l (each i j apart c hp hq) =
      of_both t p i l
      (record {
        known = c.known;
        fits = (fit_alone J (action_of J i) (action_of J j) c.fits).0;
        from = c.from;
        ready = c.ready;
        ends = c.ends;
      })
      hp
  first_no_later p q t l (each_other i j apart c hq hp) =
      of_both t p j l
      (alone_part t _ _ j (in_union_right (action_of J i).needs (action_of J j).needs)
      (record {
        known = c.known_too;
        fits = (fit_alone J (action_of J i) (action_of J j) c.fits).1;
        from = c.both_from;
        ready = c.both_ready;
        ends = c.both_end;
      }))
      hp

  -- each of two facts has a time by itself, no later than that of both
  pub single_no_later_than_pair : (p q t : ℕ) → p ≤ q → q < J.facts → By (T p q) t → By (T p p) t × By (T q q) t
  single_no_later_than_pair p q t a b h =
      let r : Reached J T p q t = reached_of_right_side J T p q t (by_same t (solves p q a b) h) in
      (first_no_later p q t (omega arith) r, first_no_later q p t b (reached_swap r))

  pub time_of_pair : (p q : ℕ) → p ≤ q → q < J.facts → time_of J T (union (single p) (single q)) ≡ T p q
  time_of_pair p q a b = by_ext (time_of J T (union (single p) (single q))) (T p q) entry whole
    where
      entry : (t : ℕ) → By (time_of J T (union (single p) (single q))) t → By (T p q) t
      entry t h =
          by_time_of J T (union (single p) (single q)) t h p q a b (in_union_left (single p) (single q) p (in_single p))
          (in_with (single p) q)

      cases : (n : ℕ) → has (union (single p) (single q)) n ≡ true → (n ≡ p) ⊎ (n ≡ q)
      cases n h = ⊎_elim (λ e. inl (only_in_single p n e)) (λ e. inr e) (in_with_cases (single p) q n h)

      same : (t x y u v : ℕ) → x ≡ u → y ≡ v → By (T u v) t → By (T x y) t
      same t x y u v e f h = rw (e, f) h

      whole : (t : ℕ) → By (T p q) t → By (time_of J T (union (single p) (single q))) t
      whole t h =
          let alone = single_no_later_than_pair p q t a b h in
          time_of_by J T (union (single p) (single q)) t
          (λ x y c d hx hy.
          ⊎_elim
          (λ e.
          ⊎_elim (λ f. same t x y p p e f alone.0) (λ f. same t x y p q e f h) (cases y hy))
          (λ e. let f : y ≡ q = ⊎_elim (λ g. omega arith) (λ g. g) (cases y hy) in same t x y q q e f alone.1)
          (cases x hx))
