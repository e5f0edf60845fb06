-- The choices as the code tries them: the number that it computes for a choice is the minute at which the choice ends.
-- Assumes nothing.
use Prim.Native.Nat.{ℕ, ◌+◌, ◌*◌, ◌≤◌, ◌<◌}
use mathlib.Core.Path.{◌≡◌, sym, ap, ◌∙◌}
use mathlib.Core.Bool.{Bool, true, false, not, ◌&&◌, ◌||◌, true≢false}
use mathlib.Core.Logic.{◌⊎◌, ⊎_elim}
use mathlib.Core.List.{List}
use native.Mathlib.Omega.{arith}
use lib.ListN.{length, get_or}
use borrow.Author.Tests.{not-true, ltb-false, le-ltb}
use Rattle.lists.proofs.Below.{below_none, none_below}
use Rattle.lists.proofs.Bools.{and_left, and_right, or_left, or_right}
use Rattle.facts.specs.FactSet.{has, union, difference, single}
use Rattle.facts.proofs.Membership.{has_union}
use Rattle.facts.proofs.SetLaws.{in_difference_parts}
use Rattle.job.specs.Job.{Action, Job}
use Rattle.job.specs.Valid.{over}
use Rattle.timeline.specs.Timeline.{hinders}
use Rattle.times.specs.Earliest.{time_of, action_of, fits_alone, fit_together}
use Rattle.times.specs.Numbers.{none, table_in}
use Rattle.times.specs.Choices.{By, Alone, Together, both, other, each}
use Rattle.times.specs.Entries.{finite_in}
use Rattle.earliest.specs.Numbers.{set_number}
use Rattle.earliest.specs.Lowering.{Lowerable, RowOffered, AllOffered}
use Rattle.earliest.specs.Sweep.{end_number, both_end_number, is_longer, may_join}
use Rattle.earliest.proofs.SetTimes.{number_by_set, set_by_number, number_of_reachable, number_within_finite}
use Rattle.earliest.proofs.SetTimes.{after_finite, finite_of_after}
use Rattle.earliest.proofs.Longer.{longer_cases}

-- an action that fits beside another fits alone
pub fits_alone_of_together : (J : Job) (a b : Action) → fit_together J a b ≡ true → fits_alone J a ≡ true
fits_alone_of_together J a b h =
    ap not
    (none_below (length J.pools) (λ k. over (available k) (get_or a.pools k 0))
    (λ k l.
    let together : ℕ = get_or a.pools k 0 + get_or b.pools k 0 in
    let m = ltb-false (available k) together
    (below_none (length J.pools) (λ k. over (available k) (get_or a.pools k 0 + get_or b.pools k 0))
    (not-true _ h) k l) in
    le-ltb (available k) (get_or a.pools k 0) (omega arith)))
  where
    available : ℕ → ℕ
    available k = get_or J.pools k 0

module _ (J : Job) (xs : List ℕ) (able : Lowerable J xs) where
  -- ---- one action
  module _ (i set : ℕ) (known : i < length J.actions) where
    abbrev ends : ℕ
    ends = end_number J xs (action_of J i) set

    abbrev ready : ℕ
    ready = set_number xs set J.facts

    -- the action that starts when the set is there ends then
    pub alone_by_number : fits_alone J (action_of J i) ≡ true → (t : ℕ) → ends ≤ t → ends < none
        → Alone J (table_in xs) t set i
    alone_by_number fits t m l =
        let k = finite_of_after (action_of J i).duration ready l in
        let e = after_finite (action_of J i).duration ready k in
        record {
          known = known;
          fits = fits;
          from = ready;
          ready = set_by_number J xs able set k;
          ends = omega arith;
        }

    pub end_within_finite : (action_of J i).duration ≤ 255 → ends < none → ends ≤ 255 + 255 * finite_in xs
    end_within_finite d l =
        let k = finite_of_after (action_of J i).duration ready l in
        let e = after_finite (action_of J i).duration ready k in
        let f = number_within_finite J xs able set k in
        omega arith

    -- no earlier
    pub number_by_alone : (action_of J i).duration ≤ 255 → (from t : ℕ) → By (time_of J (table_in xs) set) from
        → (action_of J i).duration + from ≤ t → (ends ≤ t) × (ends < none)
    number_by_alone d from t h l =
        let k = number_of_reachable J xs able set from h in
        let e = after_finite (action_of J i).duration ready k in
        let n = number_by_set J xs able set from h in
        (omega arith, omega arith)

  -- ---- (i)
  pub both_offered : (i : ℕ) → i < length J.actions → fits_alone J (action_of J i) ≡ true
      → (action_of J i).duration ≤ 255
      → AllOffered J xs (end_number J xs (action_of J i) (action_of J i).needs) (action_of J i).adds (action_of J i).adds
  both_offered i known fits short p a hp q b hq l = (
    both i (alone_by_number i (action_of J i).needs known fits _ (omega arith) l) hp hq,
    end_within_finite i (action_of J i).needs known short l,
  )

  -- ---- (ii)
  pub carried_offered : (i q : ℕ) → i < length J.actions → fits_alone J (action_of J i) ≡ true
      → (action_of J i).duration ≤ 255
      → has (union (action_of J i).adds (action_of J i).deletes) q ≡ false
      → RowOffered J xs (end_number J xs (action_of J i) (union (action_of J i).needs (single q))) q (action_of J i).adds
  carried_offered i q known fits short untouched p b hp l =
      let apart = sym (has_union (action_of J i).adds (action_of J i).deletes q) ∙ untouched in
      let set : ℕ = union (action_of J i).needs (single q) in
      let added = or_left (has (action_of J i).adds q) _ apart in (
        other i (λ e. true≢false (sym (rw (← e) at hp) ∙ added)) (alone_by_number i set known fits _ (omega arith) l) hp
            (or_right (has (action_of J i).adds q) _ apart),
        end_within_finite i set known short l,
      )

  -- ---- (iii)
  module _ (i j : ℕ) (known : i < length J.actions) (known_too_lem : j < length J.actions)
      (joined : may_join J i j ≡ true) where
    abbrev a : Action
    a = action_of J i

    abbrev b : Action
    b = action_of J j

    abbrev both_needs : ℕ
    both_needs = union a.needs b.needs

    abbrev parted : Bool
    parted = not (hinders a b || hinders b a) && fit_together J a b

    first : (b.duration < a.duration) ⊎ ((a.duration ≡ b.duration) × (j < i))
    first =
        longer_cases a.duration b.duration i j
        (and_left (is_longer a.duration b.duration i j) parted joined)

    parted_so : parted ≡ true
    parted_so = and_right (is_longer a.duration b.duration i j) parted joined

    pub joined_fit : fit_together J a b ≡ true
    joined_fit = and_right (not (hinders a b || hinders b a)) (fit_together J a b) parted_so

    no_clash_lem : (hinders a b || hinders b a) ≡ false
    no_clash_lem =
        not-true (hinders a b || hinders b a)
        (and_left (not (hinders a b || hinders b a)) (fit_together J a b) parted_so)

    shorter : b.duration ≤ a.duration
    shorter = ⊎_elim (λ l. omega arith) (λ l. let same = l.0 in omega arith) first

    apart : i ≡ j → ⊥
    apart e =
        let same : a.duration ≡ b.duration = ap (λ (k : ℕ). (action_of J k).duration) e in
        ⊎_elim (λ l. omega arith) (λ l. let before = l.1 in omega arith) first

    together_by_number : (t : ℕ) → both_end_number J xs a b ≤ t → both_end_number J xs a b < none
        → Together J (table_in xs) t i j
    together_by_number t m l =
        let alone = alone_by_number i a.needs known (fits_alone_of_together J a b joined_fit) t (omega arith)
        (omega arith) in
        let k = finite_of_after b.duration (set_number xs both_needs J.facts) (omega arith) in
        let e = after_finite b.duration (set_number xs both_needs J.facts) k in
        record {
          known = known;
          known_too = known_too_lem;
          different = apart;
          spares = or_left (hinders a b) (hinders b a) no_clash_lem;
          spared = or_right (hinders a b) (hinders b a) no_clash_lem;
          fits = joined_fit;
          longer = shorter;
          from = alone.from;
          ready = alone.ready;
          ends = alone.ends;
          both_from = set_number xs both_needs J.facts;
          both_ready = set_by_number J xs able both_needs k;
          both_end = omega arith;
        }

    both_end_within_finite : a.duration ≤ 255 → both_end_number J xs a b < none
        → both_end_number J xs a b ≤ 255 + 255 * finite_in xs
    both_end_within_finite short l =
        let s = shorter in
        let m = end_within_finite i a.needs known short (omega arith) in
        let n = end_within_finite j both_needs known_too_lem (omega arith) (omega arith) in
        omega arith

    pub pair_offered : a.duration ≤ 255
        → AllOffered J xs (both_end_number J xs a b) (difference a.adds b.adds) (difference b.adds a.adds)
    pair_offered short p m hp q n hq l =
        let only_p = in_difference_parts a.adds b.adds p hp in
        let only_q = in_difference_parts b.adds a.adds q hq in
        let unlike : p ≡ q → ⊥ = λ e. true≢false (sym (rw e at only_p.0) ∙ only_q.1) in
        let t : ℕ = both_end_number J xs a b in
        (each i j unlike (together_by_number t (omega arith) l) only_p.0 only_q.0, both_end_within_finite short l)

    pub number_by_together : a.duration ≤ 255 → (t : ℕ) → Together J (table_in xs) t i j
        → (both_end_number J xs a b ≤ t) × (both_end_number J xs a b < none)
    number_by_together short t c =
        let s = shorter in
        let m = number_by_alone i a.needs known short c.from t c.ready c.ends in
        let n = number_by_alone j both_needs known_too_lem (omega arith) c.both_from t c.both_ready c.both_end in
        let m1 = m.0 in
        let m2 = m.1 in
        let n1 = n.0 in
        let n2 = n.1 in
        (omega arith, omega arith)
