-- `facts::foreign` meets its contract: with 64 facts or more a word has no foreign bit, below that the shift tells.
use Prim.Native.Nat.{ℕ}
use mathlib.Core.Path.{◌≡◌, sym}
use mathlib.Core.Bool.{Bool, not}
use native.Mathlib.Omega.{arith}
use Rattle.lists.specs.Answer.{Decides}
use Rattle.facts.specs.FactSet.{foreign, Within}
use Rattle.facts.proofs.Membership.{foreign_decides, foreign_none, foreign_shift}
use Rattle.facts.proofs.foreign.Goals as goal

answers : (facts set : ℕ) (r : Bool) → r ≡ foreign facts set
    → (r ≡ foreign facts set) × Decides (not r) (Within facts set)
answers facts set r e = (e, rw e (foreign_decides facts set))

pub returns-then-facts-ge-BITS : goal.returns-then-facts-ge-BITS
returns-then-facts-ge-BITS c =
    answers _ _ _
    (sym (foreign_none c.args.facts c.args.set (omega arith) (omega arith)))

pub returns : goal.returns
returns c = answers _ _ _ (foreign_shift c.args.facts c.args.set)
