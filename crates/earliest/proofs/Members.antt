-- The loops that lower the entries of a fact with the facts of a set, and of one set with another.
-- Assumes nothing.
use Prim.Native.Nat.{ℕ, ◌<◌}
use mathlib.Core.Path.{◌≡◌}
use mathlib.Core.Bool.{Bool, true}
use mathlib.Core.List.{List}
use native.Mathlib.Omega.{arith}
use Rattle.facts.specs.FactSet.{has}
use Rattle.job.specs.Job.{Job}
use Rattle.earliest.specs.Lowering.{Lowerable, Lowering, EntryAtMost, RowAtMost}
use Rattle.earliest.specs.Lowering.{RowOffered, AllOffered, LowersEntry, LowersRow}
use Rattle.earliest.proofs.LoweringLaws.{lowerable_on, offered_on}

module _ (facts set t : ℕ) (first : List ℕ) where
  -- ---- the facts of the set with fact p
  module _ (p : ℕ) where
    -- the job's entries of fact p may be lowered to t
    abbrev pub RowAble : Job → Type 0
    RowAble J = Lowerable J first × (J.facts ≡ facts) × (p < facts) × RowOffered J first t p set

    pub row_step : (n : ℕ) (xs ys : List ℕ) (b c : Bool) → has set n ≡ true → n < facts → LowersEntry xs ys p n t c
        → (J : Job) → RowAble J → (D : List ℕ → Type 0) → Lowering J D first xs b
        → Lowering J (EntryAtMost p n t) xs ys c
    row_step n xs ys b c member l lowers J able D before =
        let same = able.1 in
        let here = able.2 in
        lowers J (lowerable_on J D first xs b able.0 before) (omega arith) (omega arith)
        (offered_on J D first xs b t p n before (able.3 n (omega arith) member))

  -- ---- the facts of the set with those of another set
  module _ (other : ℕ) where
    abbrev pub AllAble : Job → Type 0
    AllAble J = Lowerable J first × (J.facts ≡ facts) × AllOffered J first t set other

    pub all_step : (n : ℕ) (xs ys : List ℕ) (b c : Bool) → has set n ≡ true → n < facts
        → LowersRow facts xs ys n other t c → (J : Job) → AllAble J → (D : List ℕ → Type 0)
        → Lowering J D first xs b → Lowering J (RowAtMost n other t facts) xs ys c
    all_step n xs ys b c member l lowers J able D before =
        let same = able.1 in
        lowers J (lowerable_on J D first xs b able.0 before) same l
        (λ q k h. offered_on J D first xs b t n q before (able.2 n (omega arith) member q k h))
