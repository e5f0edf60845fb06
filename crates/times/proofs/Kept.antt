-- What lowering entries keeps: each is at least its right side, and a finite one at most 255 for each finite one.
-- Assumes nothing.
use Prim.Native.Nat.{ℕ, zero, suc, ◌+◌, ◌*◌, ◌<◌, ◌≤◌}
use mathlib.Core.Path.{◌≡◌, sym, ap, ◌∙◌}
use mathlib.Core.Bool.{Bool, true, false, cond}
use mathlib.Core.Logic.{◌⊎◌, inl, inr, ⊎_elim}
use mathlib.Core.List.{List, [], ◌∷◌}
use native.Mathlib.Omega.{arith}
use lib.Dec.{eqb}
use lib.ListN.{get_or, length, set, replicate, length-set, length-replicate, get_or-replicate}
use lib.Seq.{get_or-set_same, get_or-set_other}
use borrow.Author.Tests.{eqb-true, eq-eqb, eqb-false, ne_eqb}
use Rattle.job.specs.Job.{Job}
use Rattle.timeline.proofs.Tests.{decided}
use Rattle.times.specs.Earliest.{time_of, right_side}
use Rattle.pairs.specs.Pairs.{entry_of}
use Rattle.times.specs.Numbers.{none, table_in}
use Rattle.times.specs.Choices.{By}
use Rattle.times.specs.Entries.{one, finite_in, Kept}
use Rattle.times.proofs.Times.{by_same, by_time_of, time_of_by}
use Rattle.times.proofs.Monotone.{right_side_capped}
use Rattle.times.proofs.Finite.{LongestDuration}
use Rattle.times.proofs.Iteration.{Lowered, at_least_when_lowered}
use Rattle.times.proofs.Sentinel.{AtMost, at_most_of_by, at_most_more, Small, small_at_most, time_of_less}
use Rattle.times.proofs.Sentinel.{by_not_none}
use Rattle.times.proofs.Slots.{entry_before_2080}

-- ---- the number of finite entries
pub finite_at_most_length : (xs : List ℕ) → finite_in xs ≤ length xs
finite_at_most_length [] = omega arith
finite_at_most_length (x ∷ xs) =
    let l = finite_at_most_length xs in let m = at_most_one (eqb x none) in omega arith
  where
    at_most_one : (b : Bool) → cond b 0 1 ≤ 1
    at_most_one true = omega arith
    at_most_one false = omega arith

pub finite_after_set : (xs : List ℕ) (k v d : ℕ) → k < length xs
    → finite_in (set xs k v) + one (get_or xs k d) ≡ finite_in xs + one v
finite_after_set [] k v d l = absurd (omega arith)
finite_after_set (x ∷ xs) zero v d l = omega arith
finite_after_set (x ∷ xs) (suc k) v d l = let e = finite_after_set xs k v d (omega arith) in omega arith

one_of_none : (x : ℕ) → x ≡ none → one x ≡ 0
one_of_none x e = rw (eq-eqb x none e)

one_of_less : (x : ℕ) → x < none → one x ≡ 1
one_of_less x l = rw (ne_eqb x none (λ e. omega arith))

-- ---- what is kept
pub kept_at_first : (J : Job) → J.facts ≤ 64 → Kept J (replicate 2080 none)
kept_at_first J few =
    record {
      whole = length-replicate 2080 none;
      least = λ p q t a b h.
          absurd
          (by_not_none (get_or (replicate 2080 none) (entry_of p q) none) t h
          (get_or-replicate 2080 (entry_of p q) none none (entry_before_2080 p q a (omega arith))));
      bounded = λ k l. inl (get_or-replicate 2080 k none none l);
    }

module _ (J : Job) (few : J.facts ≤ 64) (xs : List ℕ) (kept : Kept J xs) where
  cap : 255 * finite_in xs ≤ 530400
  cap = let l = finite_at_most_length xs in let n = kept.whole in omega arith

  pub entry_inside : (p q : ℕ) → p ≤ q → q < J.facts → entry_of p q < length xs
  entry_inside p q a b = let l = entry_before_2080 p q a (omega arith) in let n = kept.whole in omega arith

  -- an entry is the number for unreachable, or at most 530,400
  pub entry_at_most_530400 : (k : ℕ) → k < 2080 → (get_or xs k none ≡ none) ⊎ (get_or xs k none ≤ 530400)
  entry_at_most_530400 k l = let c = cap in ⊎_elim (λ e. inl e) (λ m. inr (omega arith)) (kept.bounded k l)

  pub entry_at_most_none : (k : ℕ) → k < 2080 → get_or xs k none ≤ none
  entry_at_most_none k l = ⊎_elim (λ e. omega arith) (λ m. omega arith) (entry_at_most_530400 k l)

  capped : (p q t : ℕ) → p ≤ q → q < J.facts → By (table_in xs p q) t → By (table_in xs p q) (255 * finite_in xs)
  capped p q t a b h =
      let c = cap in
      ⊎_elim (λ e. absurd (by_not_none (get_or xs (entry_of p q) none) t h e))
      (λ m. by_same (255 * finite_in xs) (sym (time_of_less (get_or xs (entry_of p q) none) (omega arith))) m)
      (kept.bounded (entry_of p q) (entry_before_2080 p q a (omega arith)))

  -- the time of a set and a right side, where finite
  pub set_at_most : (facts : ℕ) → AtMost 530400 (time_of J (table_in xs) facts)
  set_at_most facts =
      at_most_more (255 * finite_in xs) 530400 (time_of J (table_in xs) facts) cap
      (at_most_of_by (255 * finite_in xs) (time_of J (table_in xs) facts)
      (λ t h.
      time_of_by J (table_in xs) facts (255 * finite_in xs)
      (λ p q a b hp hq. capped p q t a b (by_time_of J (table_in xs) facts t h p q a b hp hq))))

  -- ---- an entry written
  module _ (p q v : ℕ) (a : p ≤ q) (b : q < J.facts) (less : v < get_or xs (entry_of p q) none)
      (most : v ≤ 255 + 255 * finite_in xs) where
    place : entry_of p q < 2080
    place = let l = entry_inside p q a b in let n = kept.whole in omega arith

    -- the number of finite entries grows where the old one was unreachable
    pub finite_when_written : (finite_in xs ≤ finite_in (set xs (entry_of p q) v))
        × (v ≤ 255 * finite_in (set xs (entry_of p q) v))
    finite_when_written =
        let l = less in
        let f = most in
        let c = cap in
        let m = entry_at_most_none (entry_of p q) place in
        let n = finite_after_set xs (entry_of p q) v none (entry_inside p q a b) in
        let y = one_of_less v (omega arith) in
        ⊎_elim
        (λ e. let z = one_of_none (get_or xs (entry_of p q) none) e in (omega arith, omega arith))
        (λ e. let z = one_of_less (get_or xs (entry_of p q) none) (omega arith) in (omega arith, omega arith))
        (kept.bounded (entry_of p q) place)

    pub kept_when_written : Lowered J (table_in xs) (table_in (set xs (entry_of p q) v))
        → Kept J (set xs (entry_of p q) v)
    kept_when_written lowered =
        let g = finite_when_written.0 in
        let h = finite_when_written.1 in
        let n = kept.whole in
        record {
          whole = length-set xs (entry_of p q) v ∙ kept.whole;
          least = at_least_when_lowered J (table_in xs) (table_in (set xs (entry_of p q) v)) lowered kept.least;
          bounded = λ k l.
              ⊎_elim
              (λ z.
              let y = eqb-true k (entry_of p q) z in
              let w : get_or (set xs (entry_of p q) v) k none ≡ v =
              ap (λ (i : ℕ). get_or (set xs (entry_of p q) v) i none) y
              ∙ get_or-set_same xs (entry_of p q) v none (entry_inside p q a b) in
              inr (omega arith))
              (λ z.
              let w : get_or (set xs (entry_of p q) v) k none ≡ get_or xs k none =
              get_or-set_other xs (entry_of p q) k v none (eqb-false k (entry_of p q) z) in
              ⊎_elim (λ y. inl (w ∙ y)) (λ y. inr (omega arith)) (kept.bounded k l))
              (decided (eqb k (entry_of p q)));
        }

-- ---- where no action lasts longer than 255 minutes
module _ (J : Job) (durations : LongestDuration J 255) (few : J.facts ≤ 64) (xs : List ℕ) (kept : Kept J xs) where
  pub right_side_at_most : (p q : ℕ) → AtMost (255 + 255 * finite_in xs) (right_side J (table_in xs) p q)
  right_side_at_most p q =
      at_most_of_by (255 + 255 * finite_in xs) (right_side J (table_in xs) p q)
      (λ t. right_side_capped J (table_in xs) (255 * finite_in xs) 255 durations (capped J few xs kept) p q t)

  pub right_side_small : (p q : ℕ) → Small (right_side J (table_in xs) p q)
  right_side_small p q =
      let c = cap J few xs kept in
      small_at_most (255 + 255 * finite_in xs) (right_side J (table_in xs) p q) (omega arith) (right_side_at_most p q)
