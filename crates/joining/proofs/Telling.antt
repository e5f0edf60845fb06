-- The largest of numbers, as a loop over the handovers finds it.
-- Assumes nothing.
use Prim.Native.Nat.{ℕ, zero, suc, ◌<◌}
use native.Mathlib.Omega.{arith}
use mathlib.Core.Path.{◌≡◌, refl}
use Rattle.timeline.specs.Timeline.{largest_below}

-- the largest of numbers that are the same
pub largest_same : (n : ℕ) (f g : ℕ → ℕ) → ((k : ℕ) → k < n → f k ≡ g k) → largest_below n f ≡ largest_below n g
largest_same zero f g h = refl
largest_same (suc n) f g h =
    let here = h n (omega arith) in
    let before = largest_same n f g (λ k l. h k (omega arith)) in
    omega arith
