-- The number of a set's time stands for it, and for the end of an action that starts then.
-- Assumes nothing.
use Prim.Native.Nat.{ℕ, suc, ◌+◌, ◌*◌, ◌≤◌, ◌<◌}
use mathlib.Core.Path.{◌≡◌, refl, ap}
use mathlib.Core.Bool.{Bool, true, false, cond}
use mathlib.Core.Logic.{⊎_elim}
use mathlib.Core.List.{List}
use native.Mathlib.Omega.{arith}
use lib.Dec.{ltb}
use lib.ListN.{get_or}
use borrow.Author.Tests.{ltb-true, ltb-false, le-ltb, lt-ltb}
use Rattle.facts.specs.FactSet.{has, Subset}
use Rattle.job.specs.Job.{Job}
use Rattle.pairs.specs.Pairs.{entry_of}
use Rattle.times.specs.Time.{Time, at, unreachable}
use Rattle.times.specs.Earliest.{time_of}
use Rattle.times.specs.Numbers.{none, table_in}
use Rattle.times.specs.Choices.{By}
use Rattle.times.specs.Entries.{finite_in}
use Rattle.times.proofs.Times.{by_ext, by_time_of, time_of_by, by_later_minute}
use Rattle.times.proofs.Sentinel.{AtMost, by_time_in, time_in_by}
use Rattle.times.proofs.Slots.{entry_before_2080}
use Rattle.times.proofs.Kept.{set_at_most}
use Rattle.earliest.specs.Numbers.{row_number, set_number, after_number, SameTime}
use Rattle.earliest.specs.Lowering.{Lowerable}
use Rattle.earliest.proofs.Latest.{latest_at_most, member_at_most_latest}

capped : (c : ℕ) (a : Time) (t : ℕ) → AtMost c a → By a t → By a c
capped c (at x) t m h = m
capped c unreachable t m h = h

-- ---- the number of a set's time
module _ (J : Job) (xs : List ℕ) (able : Lowerable J xs) (set : ℕ) where
  abbrev number : ℕ
  number = set_number xs set J.facts

  -- an entry of two facts of the set is at most the number
  entry_at_most_number : (p q : ℕ) → p ≤ q → q < J.facts → has set p ≡ true → has set q ≡ true
      → get_or xs (entry_of p q) none ≤ number
  entry_at_most_number p q a b hp hq =
      let inner = member_at_most_latest set (λ p. get_or xs (entry_of p q) none) (suc q) p (omega arith) hp in
      let outer = member_at_most_latest set (λ q. row_number xs set q (suc q)) J.facts q b hq in
      omega arith

  number_at_most : (t : ℕ) → ((p q : ℕ) → p ≤ q → q < J.facts → has set p ≡ true → has set q ≡ true
      → get_or xs (entry_of p q) none ≤ t) → number ≤ t
  number_at_most t h =
      latest_at_most set (λ q. row_number xs set q (suc q)) J.facts t
      (λ q b hq.
      latest_at_most set (λ p. get_or xs (entry_of p q) none) (suc q) t (λ p a hp. h p q (omega arith) b hp hq))

  pub number_by_set : (t : ℕ) → By (time_of J (table_in xs) set) t → number ≤ t
  number_by_set t h =
      number_at_most t
      (λ p q a b hp hq. by_time_in (get_or xs (entry_of p q) none) t (by_time_of J (table_in xs) set t h p q a b hp hq))

  pub set_by_number : number ≤ 530400 → By (time_of J (table_in xs) set) number
  set_by_number l =
      time_of_by J (table_in xs) set number
      (λ p q a b hp hq.
      let m = entry_at_most_number p q a b hp hq in
      time_in_by (get_or xs (entry_of p q) none) number (omega arith) m)

  pub number_of_reachable : (t : ℕ) → By (time_of J (table_in xs) set) t → number ≤ 530400
  number_of_reachable t h =
      number_by_set 530400
      (capped 530400 (time_of J (table_in xs) set) t
      (set_at_most J able.few xs able.kept set) h)

  pub number_within_finite : number ≤ 530400 → number ≤ 255 * finite_in xs
  number_within_finite l =
      let few = able.few in
      number_at_most (255 * finite_in xs)
      (λ p q a b hp hq.
      let m = entry_at_most_number p q a b hp hq in
      ⊎_elim (λ e. absurd (omega arith)) (λ k. k)
      (able.kept.bounded (entry_of p q) (entry_before_2080 p q a (omega arith))))

  -- the number stands for the time
  pub time_of_set : time_of J (table_in xs) set ≡ cond (ltb 530400 number) unreachable (at number)
  time_of_set = go (ltb 530400 number) refl
    where
      go : (b : Bool) → ltb 530400 number ≡ b → time_of J (table_in xs) set ≡ cond b unreachable (at number)
      go true e =
          let l = ltb-true 530400 number e in
          by_ext (time_of J (table_in xs) set) unreachable
          (λ t h. let k = number_of_reachable t h in absurd (omega arith)) (λ t h. absurd h)
      go false e =
          let l = ltb-false 530400 number e in
          by_ext (time_of J (table_in xs) set) (at number) (λ t h. number_by_set t h)
          (λ t h. by_later_minute (time_of J (table_in xs) set) number t h (set_by_number l))

-- no earlier with more facts
pub number_of_part : (J : Job) (xs : List ℕ) → Lowerable J xs → (a b : ℕ) → Subset a b
    → set_number xs a J.facts ≤ set_number xs b J.facts
number_of_part J xs able a b inside =
    number_at_most J xs able a (set_number xs b J.facts)
    (λ p q l k hp hq. entry_at_most_number J xs able b p q l k (inside p hp) (inside q hq))

-- ---- numbers of one time
module _ (x y : ℕ) (same : SameTime x y) where
  pub same_after : (minutes : ℕ) → after_number minutes x ≡ after_number minutes y
  same_after minutes =
      ⊎_elim (λ e. ap (after_number minutes) e)
      (λ late. rw (lt-ltb 530400 x late.0, lt-ltb 530400 y late.1)) same

  pub same_time : cond (ltb 530400 x) unreachable (at x) ≡ cond (ltb 530400 y) unreachable (at y)
  same_time =
      ⊎_elim (λ e. ap (λ (n : ℕ). cond (ltb 530400 n) unreachable (at n)) e)
      (λ late. rw (lt-ltb 530400 x late.0, lt-ltb 530400 y late.1)) same

pub same_time_as : (xs : List ℕ) (facts set set' x : ℕ) → set ≡ set' → SameTime x (set_number xs set facts)
    → SameTime x (set_number xs set' facts)
same_time_as xs facts set set' x e h = rw (← e) h

-- ---- some minutes later
pub after_finite : (minutes x : ℕ) → x ≤ 530400 → after_number minutes x ≡ minutes + x
after_finite minutes x l = rw (le-ltb 530400 x l)

pub late_of_after : (minutes x : ℕ) → minutes < 256 → after_number minutes x ≡ none → 530400 < x
late_of_after minutes x = go (ltb 530400 x) refl
  where
    go : (b : Bool) → ltb 530400 x ≡ b → minutes < 256 → cond b none (minutes + x) ≡ none → 530400 < x
    go true e l m = ltb-true 530400 x e
    go false e l m = let n = ltb-false 530400 x e in absurd (omega arith)

pub finite_of_after : (minutes x : ℕ) → after_number minutes x < none → x ≤ 530400
finite_of_after minutes x = go (ltb 530400 x) refl
  where
    go : (b : Bool) → ltb 530400 x ≡ b → cond b none (minutes + x) < none → x ≤ 530400
    go true e l = absurd (omega arith)
    go false e l = ltb-false 530400 x e
