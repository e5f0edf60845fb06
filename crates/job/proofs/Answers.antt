-- Laws of `Decides`: an answer that is put together from others.
-- Assumes nothing.
use Prim.Native.Nat.{ℕ}
use mathlib.Core.Path.{◌≡◌}
use mathlib.Core.Bool.{Bool, false, ◌&&◌}
use native.Mathlib.Omega.{arith}
use lib.Dec.{eqb}
use borrow.Author.Tests.{eqb-true, eq-eqb}
use Rattle.lists.specs.Answer.{Decides}
use Rattle.lists.proofs.Bools.{and_left, and_right}

infixl 20 ◌and◌ ◌also◌
pub equal : (x y : ℕ) → Decides (eqb x y) (x ≡ y)
equal x y = record { sound = eqb-true x y; complete = eq-eqb x y }

pub ◌and◌ : {a b : Bool} {P Q : Type 0} → Decides a P → Decides b Q → Decides (a && b) (P × Q)
◌and◌ {a} {b} p q =
    record {
      sound = λ h. (p.sound (and_left a b h), q.sound (and_right a b h));
      complete = λ h. rw (p.complete h.0, q.complete h.1);
    }

-- what such an answer is about: both
pub ◌also◌ : {P Q : Type 0} → P → Q → P × Q
◌also◌ p q = (p, q)

pub decides_not : {a : Bool} {P : Type 0} → Decides a P → a ≡ false → P → ⊥
decides_not d h p = let z : ◌≡◌ {A = ℕ} 0 1 = cc (d.complete p) in omega arith
