-- All facts of a set, and tails of 0.
-- Assumes nothing.
use Prim.Native.Nat.{ℕ, ◌^◌, ◌<◌, ◌≤◌}
use mathlib.Core.Path.{◌≡◌, refl}
use mathlib.Core.Bool.{true}
use mathlib.Core.Logic.{⊎_elim}
use mathlib.Core.List.{List}
use native.Mathlib.Omega.{arith}
use lib.ListN.{get_or, get_or-eq_default, replicate}
use Rattle.std.proofs.lemmas.List.{get_or-replicate}
use Rattle.facts.specs.FactSet.{has}
use Rattle.facts.proofs.Membership.{word_within}
use Rattle.timeline.proofs.Tests.{not_both, le_or_lt}
use Rattle.tails.specs.Tails.{AllAre, TailTable}

-- what holds of every fact of the set below 64 holds of every one
pub facts_of_word : (F : ℕ → Type 0) (set p : ℕ) → set < 2 ^ 64 → 64 ≤ p
    → ((n : ℕ) → n < p → has set n ≡ true → F n) → (n : ℕ) → has set n ≡ true → F n
facts_of_word F set p word all before n h =
    ⊎_elim (λ above. absurd (not_both h (word_within set word n above))) (λ l. before n (omega arith) h) (le_or_lt 64 n)

-- ---- tails of 0 are tails for every goal
zero_tail : (tails : List ℕ) → AllAre tails 0 → (p : ℕ) → get_or tails p 0 ≡ 0
zero_tail tails zeros p =
    ⊎_elim (λ beyond. let n = zeros.size in get_or-eq_default tails 0 (omega arith)) (λ l. zeros.each p l) (le_or_lt 64 p)

pub zero_table : (sets numbers : List ℕ) (actions goal : ℕ) (tails : List ℕ) → AllAre tails 0
    → TailTable sets numbers actions goal tails
zero_table sets numbers actions goal tails zeros =
    record {
      size = zeros.size;
      of_goal = λ p h. let z = zero_tail tails zeros p in omega arith;
      of_needs = λ i l q h p k. let z = zero_tail tails zeros p in omega arith;
    }

-- the library's list of 64 zeros has them
pub zeros : AllAre (replicate 64 0) 0
zeros = record { size = refl; each = λ p l. get_or-replicate 64 p 0 0 l }
