-- What `all` over a range of numbers tells, where each call that answers true shows something of its number.
-- Assumes nothing.
use Prim.Native.Nat.{ℕ, ◌<◌}
use mathlib.Core.Path.{◌≡◌, refl}
use mathlib.Core.Bool.{Bool, true, false}
use native.Mathlib.Omega.{arith}
use denote.Param.Members.{Mut}
use Rattle.std.specs.declared.ops.Range.{Range}
use Rattle.std.specs.Bool.{MatchBool}
use Rattle.std.specs.Fn.{Called}
use Rattle.std.specs.Iterator.{YieldsThen}
use Rattle.std.specs.List.{FoldsTo, AllWithin, HoldsAt, range_with_len}
use Rattle.std.specs.Option.{MatchOption}
use Rattle.std.proofs.iter.Yields.{nat_range_steps}
use Rattle.std.proofs.lemmas.Iterator.{YieldsList-from_range, cases_from_all}
use Rattle.std.proofs.lemmas.List.FromFn.{length-range_with_len, get_or-range_with_len}
use Rattle.std.proofs.Common.{Option, List, length, get_or, zero-add, ◌∙◌}

module _ {F : Type 0} {g : Mut F (ℕ × Unit {0}) Bool} (b : ℕ) (u : Range ℕ) (f : F) (r : Bool)
    (Shown : ℕ → Type 0) where
  pub each_when_all : (xs : List ℕ) × (o : Option ℕ) × (j : F)
      × YieldsThen nat_range_steps (record { start = 0; end = b }) xs o u
      × FoldsTo (λ p x q. Called g p (x, tt) true q) f xs j
      × MatchOption o (r ≡ true) (λ x. (r ≡ false) × ((h : F) × Called g j (x, tt) false h))
      → ((x : ℕ) (q : F) → Called g f (x, tt) true q → (q ≡ f) × Shown x)
      → r ≡ true → (k : ℕ) → k < b → Shown k
  each_when_all ran shows e k below =
      told r
      (cases_from_all u f r Shown (λ x. Unit {0}) ran (YieldsList-from_range 0 b b refl (omega arith)) shows
      (λ x q no. tt))
      e
    where
      told : (r : Bool) → MatchBool r (AllWithin Shown (range_with_len 0 b) 0 (length (range_with_len 0 b)))
          ((k : ℕ) × (k < length (range_with_len 0 b)) × HoldsAt (λ x. Unit {0}) (range_with_len 0 b) k)
          → r ≡ true → Shown k
      told true each e =
          let same : get_or (range_with_len 0 b) k 0 ≡ k = get_or-range_with_len 0 b k 0 below ∙ zero-add k in
          rw same at (each k 0 (omega arith) (rw length-range_with_len below))
      told false each e = cc
