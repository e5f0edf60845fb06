-- What is told of two plans joined is what is told of the joined plan.
-- Assumes nothing.
use Prim.Native.Nat.{ℕ, ◌+◌, ◌≤◌}
use mathlib.Core.Path.{◌≡◌, refl, sym}
use mathlib.Core.List.{List, [], ◌∷◌, map}
use native.Mathlib.Omega.{arith}
use lib.ListN.{length, length-append, length-map}
use Rattle.job.specs.Job.{Job}
use Rattle.timeline.specs.Step.{Step}
use Rattle.timeline.specs.Timeline.{end, peaks}
use Rattle.timeline.specs.Day.{told_of}
use Rattle.timeline.specs.declared.Day.{Day}
use Rattle.joining.specs.Join.{later_by, largest_handover, join_steps}
use Rattle.joining.specs.Inner.{offset, last_end, both_days}
use Rattle.joining.proofs.Associates.{end_joined}
use Rattle.joining.proofs.JoinedPeaks.{peaks_joined}

steps_joined : (wait : ℕ) (A B : List Step) → length (join_steps wait A B) ≡ length A + length B
unfolding join_steps
steps_joined wait [] B = omega arith
steps_joined wait (x ∷ A) [] = omega arith
steps_joined wait (x ∷ A) (y ∷ B) =
    let sum = length-append (x ∷ A) (map (later_by (end (x ∷ A) + wait)) (y ∷ B)) in
    let same = length-map (y ∷ B) (later_by (end (x ∷ A) + wait)) in
    omega arith

ends_joined : (wait : ℕ) (A B : List Step)
    → end (join_steps wait A B) ≡ last_end (end A) (offset wait (length A) (end A)) (length B) (end B)
unfolding join_steps
ends_joined wait [] [] = refl
ends_joined wait [] (y ∷ B) = omega arith
ends_joined wait (x ∷ A) [] = refl
ends_joined wait (x ∷ A) (y ∷ B) = end_joined wait x y A B

-- by what is told of each of the two
pub told_joined : (J : Job) → length J.pools ≤ 4 → (A B : List Step)
    → both_days (told_of J A) (told_of J B) (offset (largest_handover J) (length A) (end A))
    ≡ told_of J (join_steps (largest_handover J) A B)
told_joined J few A B =
    let P = join_steps (largest_handover J) A B in
    sym (same (end P) _ (length P) _ (peaks J P) _ (ends_joined (largest_handover J) A B)
    (steps_joined (largest_handover J) A B) (peaks_joined J few A B))
  where
    same : (e f n m : ℕ) (p q : List ℕ) → e ≡ f → n ≡ m → p ≡ q
        → ◌≡◌ {A = Day} (record { end = e; steps = n; peaks = p }) (record { end = f; steps = m; peaks = q })
    same e f n m p q x y z = rw (x, y, z)
