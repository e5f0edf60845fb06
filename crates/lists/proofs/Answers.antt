-- An answer to one question answers another that holds in the same cases.
-- Assumes nothing.
use mathlib.Core.Bool.{Bool}
use Rattle.lists.specs.Answer.{Decides}

pub decides_iff : {a : Bool} {P Q : Type 0} → Decides a P → (P → Q) → (Q → P) → Decides a Q
decides_iff d there back = record { sound = λ h. there (d.sound h); complete = λ q. d.complete (back q) }
