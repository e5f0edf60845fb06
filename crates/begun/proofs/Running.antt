-- The running steps: those kept steps that stop after minute M.
-- Assumes nothing.
use Prim.Native.Nat.{ℕ, ◌<◌}
use mathlib.Core.Path.{◌≡◌, refl, ap, ◌∙◌}
use mathlib.Core.Bool.{Bool, true, false, cond}
use mathlib.Core.List.{List, [], ◌∷◌, ◌++◌}
use borrow.Author.Tests.{lt-ltb}
use Rattle.facts.specs.FactSet.{union}
use Rattle.facts.proofs.SetLaws.{union_zero_left}
use Rattle.timeline.specs.Step.{Step, union_of}
use Rattle.timeline.specs.Places.{Place, here, there, Member}
use Rattle.begun.specs.RestOfDay.{runs_in, running}

pub member_of_running : (M : ℕ) {x : Step} {Q K : List Step} → Place x Q K → M < x.stop → Member x (running M K)
member_of_running M {x} (here {Q}) l = rw (lt-ltb M x.stop l) (running M Q, here)
member_of_running M {x} (there {y} {P} i) l = go (runs_in M y) (member_of_running M i l)
  where
    go : (b : Bool) → Member x (running M P) → Member x (cond b (y ∷ running M P) (running M P))
    go true m = (_, there m.1)
    go false m = m

pub running_append : (M : ℕ) (P K : List Step) → running M (P ++ K) ≡ running M P ++ running M K
running_append M [] K = refl
running_append M (x ∷ P) K = go (runs_in M x) (running_append M P K)
  where
    go : (b : Bool) → running M (P ++ K) ≡ running M P ++ running M K
        → cond b (x ∷ running M (P ++ K)) (running M (P ++ K))
        ≡ cond b (x ∷ running M P) (running M P) ++ running M K
    go true e = ap (λ (R : List Step). x ∷ R) e
    go false e = e

-- the union over the running steps is one over all, with nothing of the others
pub union_of_running : (f : Step → ℕ) (M : ℕ) (K : List Step)
    → union_of (λ x. cond (runs_in M x) (f x) 0) K ≡ union_of f (running M K)
union_of_running f M [] = refl
union_of_running f M (x ∷ K) = go (runs_in M x) (union_of_running f M K)
  where
    go : (b : Bool) → union_of (λ y. cond (runs_in M y) (f y) 0) K ≡ union_of f (running M K)
        → union (cond b (f x) 0) (union_of (λ y. cond (runs_in M y) (f y) 0) K)
        ≡ union_of f (cond b (x ∷ running M K) (running M K))
    go true e = ap (union (f x)) e
    go false e = union_zero_left _ ∙ e
