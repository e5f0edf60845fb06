-- Steps some minutes later: their clashes, and what they use of a store.
-- Assumes nothing.
use Prim.Native.Nat.{ℕ, ◌+◌}
use mathlib.Core.Path.{◌≡◌, refl, ap₂}
use mathlib.Core.Bool.{false}
use mathlib.Core.List.{List, [], ◌∷◌, map}
use native.Mathlib.Omega.{arith}
use Rattle.lists.specs.Lists.{any}
use Rattle.lists.proofs.Bools.{or_left, or_right}
use Rattle.job.specs.Job.{Job}
use Rattle.timeline.specs.Step.{Step, any_pair}
use Rattle.timeline.specs.Timeline.{clash, overlap, used_up}
use Rattle.timeline.specs.Accepted.{clashing}
use Rattle.timeline.proofs.Tests.{and_other_false, or_neither}
use Rattle.timeline.proofs.Places.{each_map, any_of_none, none_of_any}
use Rattle.timeline.proofs.Clashes.{not_clashing, overlap_when}
use Rattle.timeline.proofs.Shares.{store_use_of_action}
use Rattle.joining.specs.Join.{later_by}

-- ---- clashes
clashing_later : (n : ℕ) (x y : Step) → clashing x y ≡ false → clashing (later_by n x) (later_by n y) ≡ false
clashing_later n x y h =
    not_clashing (later_by n x) (later_by n y)
    (λ a b. and_other_false (overlap x y) (clash x y) (overlap_when x y (omega arith) (omega arith)) h)

pub no_clash_later : (n : ℕ) (P : List Step) → any_pair clashing P ≡ false
    → any_pair clashing (map (later_by n) P) ≡ false
no_clash_later n [] h = refl
no_clash_later n (x ∷ P) h =
    or_neither
    (any_of_none (clashing (later_by n x)) (map (later_by n) P)
    (each_map (λ y. clashing (later_by n x) y ≡ false) (later_by n) P
    (λ y Q i. clashing_later n x y (none_of_any (clashing x) P (or_left (any (clashing x) P) _ h) y Q i))))
    (no_clash_later n P (or_right (any (clashing x) P) _ h))

-- ---- stores
pub used_later : (J : Job) (store n : ℕ) (P : List Step) → used_up J store (map (later_by n) P) ≡ used_up J store P
used_later J store n [] = refl
used_later J store n (x ∷ P) =
    ap₂ ◌+◌ (store_use_of_action J store (later_by n x) x refl) (used_later J store n P)
