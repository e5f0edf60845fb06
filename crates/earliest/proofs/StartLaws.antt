-- The table of times to begin with, entry by entry, and what it keeps.
-- Assumes nothing.
use Prim.Native.Nat.{ℕ, ◌+◌, ◌*◌, ◌≤◌, ◌<◌, min, max}
use mathlib.Core.Path.{◌≡◌, ap, ap₂, ◌∙◌}
use mathlib.Core.Bool.{Bool, true, false, cond, ◌&&◌}
use mathlib.Core.Logic.{◌⊎◌, inl, inr, ⊎_elim}
use mathlib.Core.List.{List}
use native.Mathlib.Omega.{arith}
use lib.ListN.{length, get_or, set, replicate, length-set, length-replicate, get_or-replicate}
use lib.Seq.{get_or-set_same, get_or-set_other}
use Rattle.lists.proofs.Bools.{and_left, and_right}
use Rattle.facts.specs.FactSet.{has}
use Rattle.job.specs.Job.{Job}
use Rattle.pairs.specs.Pairs.{entry_of}
use Rattle.timeline.proofs.Tests.{decided, le_or_lt, and_both}
use Rattle.times.specs.Numbers.{none, table_in}
use Rattle.times.specs.Choices.{at_start}
use Rattle.times.specs.Entries.{finite_in}
use Rattle.times.proofs.Choices.{right_side_of_reached}
use Rattle.times.proofs.Sentinel.{by_not_none, by_time_in, time_in_by}
use Rattle.times.proofs.Slots.{entry_before, entry_of_one_pair}
use Rattle.earliest.specs.Lowering.{Lowerable, Lowering}
use Rattle.earliest.specs.Start.{BothIn, StartTimes}
use Rattle.earliest.specs.Sweep.{StartDone}

-- ---- one entry after the other
pub start_at_first : (start : ℕ) (xs : List ℕ) → xs ≡ replicate 2080 none → StartTimes start 0 xs
start_at_first start xs e =
    record {
      whole = ap length e ∙ length-replicate 2080 none;
      entries = λ k l. absurd (omega arith);
      others = λ k a b. ap (λ (l : List ℕ). get_or l k none) e ∙ get_or-replicate 2080 k none none b;
    }

module _ (start n : ℕ) (xs : List ℕ) (before : StartTimes start n xs) (l : n < 2080) where
  -- the facts of entry n are not both in the set
  pub start_left : BothIn start n false → StartTimes start (n + 1) xs
  start_left test =
      record {
        whole = before.whole;
        entries = λ k a.
            ⊎_elim
            (λ b. let e : k ≡ n = omega arith in rw e (false, test, before.others n (omega arith) l))
            (λ b. before.entries k b)
            (le_or_lt n k);
        others = λ k a b. before.others k (omega arith) b;
      }

  -- they are, and 0 is written
  pub start_written : BothIn start n true → StartTimes start (n + 1) (set xs n 0)
  start_written test =
      let whole = before.whole in
      record {
        whole = length-set xs n 0 ∙ before.whole;
        entries = λ k a.
            ⊎_elim
            (λ b. let e : k ≡ n = omega arith in rw e (true, test, get_or-set_same xs n 0 none (omega arith)))
            (λ b.
            let old = before.entries k b in
            (old.0, old.1, get_or-set_other xs n k 0 none (λ e. omega arith) ∙ old.2))
            (le_or_lt n k);
        others = λ k a b. get_or-set_other xs n k 0 none (λ e. omega arith) ∙ before.others k (omega arith) b;
      }

-- ---- all entries of the job's facts
zero_or_none : (b : Bool) (x m : ℕ) → x ≡ cond b 0 none → (x ≡ none) ⊎ (x ≤ m)
zero_or_none true x m e = inr (omega arith)
zero_or_none false x m e = inl e

module _ (J : Job) (few : J.facts ≤ 64) (xs : List ℕ) (times : StartTimes J.start (entry_of 0 J.facts) xs) where
  abbrev both : ℕ → ℕ → Bool
  both p q = has J.start p && has J.start q

  start_entry : (p q : ℕ) → p ≤ q → q < J.facts → get_or xs (entry_of p q) none ≡ cond (both p q) 0 none
  start_entry p q a b =
      let entry = times.entries (entry_of p q) (entry_before p q J.facts a b) in
      let pair = entry.1.pair in
      let same = entry_of_one_pair entry.1.low entry.1.high p q pair.ordered a pair.numbered in
      entry.2 ∙ ap (λ (b : Bool). cond b 0 none) (entry.1.same ∙ ap₂ both same.0 same.1)

  pub start_lowerable : Lowerable J xs
  start_lowerable =
      record {
        few = few;
        kept = record {
          whole = times.whole;
          least = λ p q t a b h.
              let entry = start_entry p q a b in
              ⊎_elim
              (λ e.
              right_side_of_reached J (table_in xs) p q t
              (at_start (and_left (has J.start p) (has J.start q) e)
              (and_right (has J.start p) (has J.start q) e)))
              (λ e.
              absurd (by_not_none (get_or xs (entry_of p q) none) t h (entry ∙ ap (λ (b : Bool). cond b 0 none) e)))
              (decided (both p q));
          bounded = λ k l.
              ⊎_elim (λ a. inl (times.others k a l))
              (λ a. let entry = times.entries k a in zero_or_none entry.0 _ (255 * finite_in xs) entry.2)
              (le_or_lt (entry_of 0 J.facts) k);
        };
      }

  pub start_done : StartDone J xs
  start_done p a hp q b hq =
      let low : ℕ = min p q in
      let high : ℕ = max p q in
      let entry = start_entry low high (omega arith) (omega arith) in
      let e : both low high ≡ true =
      ⊎_elim
      (λ l. let e : low ≡ p = omega arith in let f : high ≡ q = omega arith in rw (e, f) (and_both hp hq))
      (λ l. let e : low ≡ q = omega arith in let f : high ≡ p = omega arith in rw (e, f) (and_both hq hp))
      (le_or_lt p q) in
      let zero : get_or xs (entry_of low high) none ≡ 0 = entry ∙ ap (λ (b : Bool). cond b 0 none) e in
      omega arith

-- ---- lowering entries leaves those of the start at 0
pub start_done_on : (J : Job) (D : List ℕ → Type 0) (xs ys : List ℕ) (b : Bool) → Lowering J D xs ys b → StartDone J xs
    → StartDone J ys
start_done_on J D xs ys b lowering done p a hp q k hq =
    let low : ℕ = min p q in
    let high : ℕ = max p q in
    let old = done p a hp q k hq in
    by_time_in (get_or ys (entry_of low high) none) 0
    (lowering.falls low high 0 (omega arith) (omega arith)
    (time_in_by (get_or xs (entry_of low high) none) 0 (omega arith) (omega arith)))
