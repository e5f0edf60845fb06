-- Steps that are spare in every plan that begins with some steps: whatever one adds, another step adds while it runs, or
-- it is of no use by the horizon.
-- Assumes nothing.
use Rattle.std.specs.Prelude.{ℕ, ◌+◌, ◌<◌, ◌≤◌, ◌≡◌, Bool, true, false, ◌⊎◌, List, get_or}
use Rattle.facts.specs.FactSet.{has}
use Rattle.tables.specs.declared.Steps.{Steps}
use Rattle.tables.specs.Tables.{adds_at, duration_at}

-- a step of action a adds p and is not of action b; it stops while a step of action b runs, or together with it
pub record AddsWhile (sets numbers : List ℕ) (a start b from stop p : ℕ) : Type 0 where
  pub other : a ≡ b → ⊥
  pub after : from < start + duration_at numbers a
  pub by : start + duration_at numbers a ≤ stop
  pub adds : has (adds_at sets a) p ≡ true

-- each fact of the set is added so
abbrev pub AddedWhile : List ℕ → List ℕ → ℕ → ℕ → ℕ → ℕ → ℕ → ℕ → Type 0
AddedWhile sets numbers a start b from stop set =
    (p : ℕ) → has set p ≡ true → AddsWhile sets numbers a start b from stop p

-- one of the first n steps adds p so
pub record AddedByOther (sets numbers : List ℕ) (steps : Steps) (n b from stop p : ℕ) : Type 0 where
  pub step : ℕ
  pub below : step < n
  pub so : AddsWhile sets numbers (get_or steps.numbers step 0) (get_or steps.starts step 0) b from stop p

-- what action b adds and the set lacks, one of the first n steps adds
abbrev pub Alone : List ℕ → List ℕ → Steps → ℕ → ℕ → ℕ → ℕ → ℕ → Type 0
Alone sets numbers steps n b from stop set =
    (p : ℕ) → has (adds_at sets b) p ≡ true → has set p ≡ false → AddedByOther sets numbers steps n b from stop p

-- step i adds nothing alone that is of use by the horizon
abbrev pub Spare : List ℕ → List ℕ → List ℕ → ℕ → Steps → ℕ → Type 0
Spare sets numbers tails horizon steps i =
    (p : ℕ) → has (adds_at sets (get_or steps.numbers i 0)) p ≡ true
    → AddedByOther sets numbers steps steps.count (get_or steps.numbers i 0) (get_or steps.starts i 0)
    (get_or steps.starts i 0 + duration_at numbers (get_or steps.numbers i 0)) p
    ⊎ (horizon < get_or steps.starts i 0 + duration_at numbers (get_or steps.numbers i 0) + get_or tails p 0)

-- one of the steps is spare
abbrev pub NoneSpare : List ℕ → List ℕ → List ℕ → ℕ → Steps → Bool → Type 0
NoneSpare sets numbers tails horizon steps r =
    r ≡ false → (i : ℕ) × (i < steps.count) × Spare sets numbers tails horizon steps i
