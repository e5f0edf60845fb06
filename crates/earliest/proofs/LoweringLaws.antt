-- Lowerings one after the other, and the lowering of one entry.
-- Assumes nothing.
use Prim.Native.Nat.{ℕ, ◌+◌, ◌*◌, ◌≤◌, ◌<◌, min, max}
use mathlib.Core.Path.{◌≡◌, refl, sym, ap, ◌∙◌}
use mathlib.Core.Bool.{Bool, true, false, cond, ◌||◌, true≢false}
use mathlib.Core.Logic.{◌⊎◌, inl, inr, ⊎_elim}
use mathlib.Core.List.{List}
use native.Mathlib.Nat.{le_refl}
use native.Mathlib.Omega.{arith}
use lib.ListN.{get_or, set, length}
use Rattle.lists.proofs.Inside.{get_d_inside}
use Rattle.lists.proofs.Bools.{or_left, or_right}
use Rattle.job.specs.Job.{Job}
use Rattle.pairs.specs.Pairs.{entry_of}
use Rattle.timeline.proofs.Tests.{or_cases, le_or_lt}
use Rattle.times.specs.Earliest.{right_side}
use Rattle.times.specs.Numbers.{none, table_in}
use Rattle.times.specs.Choices.{Reached}
use Rattle.times.specs.Entries.{sum, Kept, finite_in}
use Rattle.times.proofs.Times.{by_later_minute}
use Rattle.times.proofs.Monotone.{right_side_mono}
use Rattle.times.proofs.Choices.{reached_of_right_side, right_side_of_reached, reached_swap}
use Rattle.times.proofs.Sentinel.{by_time_in}
use Rattle.times.proofs.Slots.{entry_before_2080}
use Rattle.times.proofs.Falling.{sum_falls, lowered_by_number}
use Rattle.times.proofs.Kept.{entry_inside, entry_at_most_none, kept_when_written}
use Rattle.times.proofs.Kept.{finite_when_written}
use Rattle.earliest.specs.Lowering.{entry_at, Lowerable, Lowering, EntryAtMost, Offered, LowersEntry}

-- ---- one after the other
pub lowering_none : (J : Job) (D : List ℕ → Type 0) (xs : List ℕ) → Kept J xs → D xs → Lowering J D xs xs false
lowering_none J D xs kept done =
    record {
      kept = kept;
      falls = λ p q t a b h. h;
      finite = le_refl (finite_in xs);
      less = λ e. absurd (true≢false (sym e));
      settled = λ e. (refl, done);
    }

pub lowering_then : (J : Job) (D E F : List ℕ → Type 0) (xs ys zs : List ℕ) (b c : Bool) → Lowering J D xs ys b
    → Lowering J E ys zs c → (D xs → E xs → F xs) → Lowering J F xs zs (c || b)
lowering_then J D E F xs ys zs b c first second both =
    record {
      kept = second.kept;
      falls = λ p q t l k h. second.falls p q t l k (first.falls p q t l k h);
      finite = let m = first.finite in let n = second.finite in omega arith;
      less = λ e. fallen (or_cases c b e);
      settled = λ e.
          let same = first.settled (or_right c b e) in
          let same_too = second.settled (or_left c b e) in
          (same_too.0 ∙ same.0, both same.1 (rw same.0 at same_too.1));
    }
  where
    no_more : (b : Bool) → Lowering J D xs ys b → sum ys ≤ sum xs
    no_more true l = let m = l.less refl in omega arith
    no_more false l = rw (l.settled refl).0 (le_refl (sum xs))

    fallen : (c ≡ true) ⊎ (b ≡ true) → sum zs < sum xs
    fallen (inl e) = let m = second.less e in let n = no_more b first in omega arith
    fallen (inr e) = let m = first.less e in let n = rest c second in omega arith
      where
        rest : (c : Bool) → Lowering J E ys zs c → sum zs ≤ sum ys
        rest true l = let m = l.less refl in omega arith
        rest false l = rw (l.settled refl).0 (le_refl (sum ys))

pub lowering_weaker : (J : Job) (D E : List ℕ → Type 0) (xs ys : List ℕ) (b : Bool) → Lowering J D xs ys b
    → (D xs → E xs) → Lowering J E xs ys b
lowering_weaker J D E xs ys b l f =
    record {
      kept = l.kept;
      falls = l.falls;
      finite = l.finite;
      less = l.less;
      settled = λ e. let s = l.settled e in (s.0, f s.1);
    }

-- what can be lowered can be lowered on
pub lowerable_on : (J : Job) (D : List ℕ → Type 0) (xs ys : List ℕ) (b : Bool) → Lowerable J xs → Lowering J D xs ys b
    → Lowerable J ys
lowerable_on J D xs ys b able l = record { few = able.few; kept = l.kept }

-- what a choice brings about at a table it brings about at a lower one
pub offered_on : (J : Job) (D : List ℕ → Type 0) (xs ys : List ℕ) (b : Bool) (t p q : ℕ) → Lowering J D xs ys b
    → Offered J xs t p q → Offered J ys t p q
offered_on J D xs ys b t p q l offer k =
    let given = offer k in
    let early = given.1 in
    let finite = l.finite in (
      reached_of_right_side J (table_in ys) p q t
          (right_side_mono J (table_in xs) (table_in ys) l.falls p q t
          (right_side_of_reached J (table_in xs) p q t given.0)),
      omega arith,
    )

-- ---- one entry
module _ (J : Job) (xs : List ℕ) (able : Lowerable J xs) where
  pub entry_at_most_sentinel : (p q : ℕ) → p ≤ q → q < J.facts → get_or xs (entry_of p q) none ≤ none
  entry_at_most_sentinel p q a b =
      let few = able.few in
      entry_at_most_none J able.few xs able.kept (entry_of p q)
      (entry_before_2080 p q a (omega arith))

  -- an entry lowered to the minute by which a choice brings its facts about
  pub lowering_written : (p q t : ℕ) → p ≤ q → q < J.facts → Reached J (table_in xs) p q t
      → t ≤ 255 + 255 * finite_in xs → t < get_or xs (entry_of p q) none → (D : List ℕ → Type 0)
      → Lowering J D xs (set xs (entry_of p q) t) true
  lowering_written p q t a b reached most less D =
      let right = right_side_of_reached J (table_in xs) p q t reached in
      let old = entry_at_most_sentinel p q a b in
      let inside = entry_inside J able.few xs able.kept p q a b in
      let lowered = lowered_by_number J xs p q t a inside old (omega arith)
      (λ u h. let l = by_time_in t u h in inr (by_later_minute (right_side J (table_in xs) p q) t u l right)) in
      record {
        kept = kept_when_written J able.few xs able.kept p q t a b less most lowered;
        falls = lowered.falls;
        finite = (finite_when_written J able.few xs able.kept p q t a b less most).0;
        less = λ e. sum_falls xs (entry_of p q) t none inside less;
        settled = λ e. absurd (true≢false e);
      }

-- ---- the entry of two facts in either order
reached_in_order : (J : Job) (xs : List ℕ) (p q t : ℕ) → Reached J (table_in xs) p q t
    → Reached J (table_in xs) (min p q) (max p q) t
reached_in_order J xs p q t r =
    ⊎_elim
    (λ l. let e : min p q ≡ p = omega arith in let f : max p q ≡ q = omega arith in rw (e, f) r)
    (λ l. let e : min p q ≡ q = omega arith in let f : max p q ≡ p = omega arith in rw (e, f) (reached_swap r))
    (le_or_lt p q)

module _ (xs : List ℕ) (p q t k : ℕ) (place : k ≡ entry_of (min p q) (max p q)) (inside : k < length xs) where
  read : get_or xs k 0 ≡ entry_at xs p q
  read = get_d_inside xs k 0 none inside ∙ ap (λ (i : ℕ). get_or xs i none) place

  pub entry_stays : get_or xs k 0 ≤ t → LowersEntry xs xs p q t false
  entry_stays l J able a b offer =
      let e = read in lowering_none J (EntryAtMost p q t) xs able.kept (omega arith)

  pub entry_lowered : t < get_or xs k 0 → LowersEntry xs (set xs k t) p q t true
  entry_lowered l J able a b offer =
      let e = read in
      let most = entry_at_most_sentinel J xs able (min p q) (max p q) (omega arith) (omega arith) in
      let given = offer (omega arith) in
      rw place
      (lowering_written J xs able (min p q) (max p q) t (omega arith) (omega arith)
      (reached_in_order J xs p q t given.0) given.1 (omega arith) (EntryAtMost p q t))

-- ---- lowering again and again
module _ (J : Job) (D : List ℕ → Type 0) (xs ys : List ℕ) where
  -- the sum falls, or nothing changed
  pub sum_or_change_falls : (changed : Bool) → Lowering J D xs ys changed → sum ys + cond changed 1 0 < sum xs + 1
  sum_or_change_falls true l = let m = l.less refl in omega arith
  sum_or_change_falls false l = let e : sum ys ≡ sum xs = ap sum (l.settled refl).0 in omega arith

  pub settled_after : (changed : Bool) → Lowering J D xs ys changed → changed ≡ false → D ys
  settled_after changed l e = let s = l.settled e in rw s.0 s.1
