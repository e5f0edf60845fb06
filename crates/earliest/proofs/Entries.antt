-- The entry of two facts: in either order, and among those of one fact, which stand side by side.
-- Assumes nothing.
use Prim.Native.Nat.{ℕ, ◌+◌, ◌≤◌, ◌<◌, min, max}
use mathlib.Core.Path.{◌≡◌, ap, ap₂, ◌∙◌}
use mathlib.Core.List.{List}
use native.Mathlib.Omega.{arith}
use lib.ListN.{length, get_or}
use Rattle.lists.proofs.Inside.{get_d_inside}
use Rattle.pairs.specs.Pairs.{entry_of}
use Rattle.times.specs.Numbers.{none}
use Rattle.times.proofs.Slots.{entry_before_2080}

-- ---- in either order
pub entry_in_order : (p q : ℕ) → p ≤ q → entry_of p q ≡ entry_of (min p q) (max p q)
entry_in_order p q l = ap₂ entry_of (omega arith) (omega arith)

pub entry_swapped : (p q : ℕ) → entry_of (min q p) (max q p) ≡ entry_of (min p q) (max p q)
entry_swapped p q = ap₂ entry_of (omega arith) (omega arith)

-- ---- the entries of fact `high` with the facts up to it, from place `first` on
module _ (xs : List ℕ) (first low high : ℕ) (whole : length xs ≡ 2080) (e : first ≡ entry_of 0 high) (l : low ≤ high)
    (k : high < 64) where
  pub entry_within : first + low < length xs
  entry_within = let inside = entry_before_2080 low high l k in omega arith

  -- the number read is the entry
  pub entry_read : get_or xs (first + low) 0 ≡ get_or xs (entry_of low high) none
  entry_read =
      let place : first + low ≡ entry_of low high = omega arith in
      ap (λ (i : ℕ). get_or xs i 0) place ∙ get_d_inside xs (entry_of low high) 0 none (rw place at entry_within)
