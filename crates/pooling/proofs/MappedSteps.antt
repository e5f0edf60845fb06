-- Sums over a mapped plan.
-- Assumes nothing.
use Prim.Native.Nat.{ℕ, ◌+◌}
use mathlib.Core.Path.{◌≡◌, refl, ap₂}
use mathlib.Core.List.{List, [], ◌∷◌, map}
use Rattle.timeline.specs.Step.{Step, total}
use Rattle.timeline.specs.Places.{here, EachStep}
use Rattle.timeline.proofs.Places.{each_rest}

pub total_of_map : (f g : Step → ℕ) (to : Step → Step) (P : List Step) → EachStep (λ x. f (to x) ≡ g x) P
    → total f (map to P) ≡ total g P
total_of_map f g to [] h = refl
total_of_map f g to (x ∷ P) h = ap₂ ◌+◌ (h x P here) (total_of_map f g to P (each_rest (λ y. f (to y) ≡ g y) x P h))
