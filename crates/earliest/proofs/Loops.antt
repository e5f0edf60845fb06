-- Loops that lower a table: over the numbers below a bound, and over the facts of a set.
-- Assumes nothing.
use Prim.Native.Nat.{ℕ, ◌+◌, ◌≤◌, ◌<◌, min}
use mathlib.Core.Path.{◌≡◌, sym, ◌∙◌}
use mathlib.Core.Bool.{Bool, true, false, ◌||◌, true≢false}
use mathlib.Core.Logic.{⊎_elim}
use mathlib.Core.List.{List}
use native.Mathlib.Omega.{arith}
use lib.ListN.{length}
use Rattle.facts.specs.FactSet.{has, NextFact}
use Rattle.job.specs.Job.{Job}
use Rattle.timeline.proofs.Tests.{le_or_lt}
use Rattle.times.specs.Entries.{Kept}
use Rattle.earliest.specs.Lowering.{Lowering}
use Rattle.earliest.proofs.LoweringLaws.{lowering_none, lowering_then, lowering_weaker}

-- where nothing fell, D holds for each number below n
abbrev pub Below : (ℕ → List ℕ → Type 0) → ℕ → List ℕ → Type 0
Below D n xs = (k : ℕ) → k < n → D k xs

module _ (J : Job) (D : ℕ → List ℕ → Type 0) where
  pub below_at_first : (xs : List ℕ) → Kept J xs → Lowering J (Below D 0) xs xs false
  below_at_first xs kept = lowering_none J (Below D 0) xs kept (λ k l. absurd (omega arith))

  pub below_next : (n : ℕ) (xs ys zs : List ℕ) (b c : Bool) → Lowering J (Below D n) xs ys b → Lowering J (D n) ys zs c
      → Lowering J (Below D (n + 1)) xs zs (c || b)
  below_next n xs ys zs b c done next =
      lowering_then J (Below D n) (D n) (Below D (n + 1)) xs ys zs b c done next
      (λ before here k l.
      ⊎_elim (λ a. let same : k ≡ n = omega arith in rw same here) (λ a. before k a) (le_or_lt n k))

  -- numbers that ask nothing
  pub below_more : (n m : ℕ) (xs ys : List ℕ) (b : Bool) → Lowering J (Below D n) xs ys b
      → ((k : ℕ) → n ≤ k → k < m → D k xs) → Lowering J (Below D m) xs ys b
  below_more n m xs ys b done others =
      lowering_weaker J (Below D n) (Below D m) xs ys b done
      (λ before k l. ⊎_elim (λ a. others k a l) (λ a. before k a) (le_or_lt n k))

-- ---- over the facts of a set below a bound
module _ (set facts : ℕ) (Able : Job → Type 0) (D : ℕ → List ℕ → Type 0) (first : List ℕ) where
  abbrev pub AtMembers : ℕ → List ℕ → Type 0
  AtMembers k xs = has set k ≡ true → D k xs

  -- n is a fact of the set or 64, and the facts below it are done
  abbrev pub Swept : ℕ → List ℕ → Bool → Type 0
  Swept n xs changed =
      (n ≤ 64) × (n < 64 → has set n ≡ true) × (length xs ≡ 2080)
      × ((J : Job) → Able J → Lowering J (Below AtMembers (min n facts)) first xs changed)

  skip : (from r k : ℕ) → NextFact set from r → from ≤ k → k < r → (xs : List ℕ) → AtMembers k xs
  skip from r k next a b xs h = absurd (true≢false (sym h ∙ next.skipped k a b))

  pub swept_at_first : (r : ℕ) → NextFact set 0 r → length first ≡ 2080 → ((J : Job) → Able J → Kept J first)
      → Swept r first false
  swept_at_first r next whole kept = (
    next.within,
    next.found,
    whole,
    λ J able.
        below_more J AtMembers 0 (min r facts) first first false (below_at_first J AtMembers first (kept J able))
        (λ k a b. skip 0 r k next a (omega arith) first),
  )

  pub swept_on : (n r : ℕ) (xs ys : List ℕ) (b c : Bool) → Swept n xs b → n < facts → n < 64 → NextFact set (n + 1) r
      → length ys ≡ 2080
      → ((J : Job) → Able J → Lowering J (Below AtMembers (min n facts)) first xs b → Lowering J (D n) xs ys c)
      → Swept r ys (c || b)
  swept_on n r xs ys b c swept l k next whole step = (
    next.within,
    next.found,
    whole,
    λ J able.
        let here : min n facts ≡ n = omega arith in
        let before = swept.3 J able in
        let now = lowering_weaker J (D n) (AtMembers n) xs ys c (step J able before) (λ d h. d) in
        below_more J AtMembers (n + 1) (min r facts) first ys (c || b)
        (below_next J AtMembers n first xs ys b c (rw here at before) now)
        (λ i p q. skip (n + 1) r i next (omega arith) (omega arith) first),
  )

  pub swept_all : (n : ℕ) (xs : List ℕ) (b : Bool) → Swept n xs b → facts ≤ n → (J : Job) → Able J
      → Lowering J (Below AtMembers facts) first xs b
  swept_all n xs b swept l J able = let e : min n facts ≡ facts = omega arith in rw e at (swept.3 J able)
