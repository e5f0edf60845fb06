-- What holds of one fact depends on the steps that add or delete it alone.
-- Assumes nothing.
use Prim.Native.Nat.{ℕ, zero, suc}
use mathlib.Core.Path.{◌≡◌, sym, ap, ap₂, ◌∙◌}
use mathlib.Core.Bool.{Bool, true, false, cond, not, ◌&&◌, ◌||◌}
use mathlib.Core.List.{List, [], ◌∷◌, map}
use lib.Dec.{eqb}
use Rattle.facts.specs.FactSet.{has, difference}
use Rattle.facts.proofs.Membership.{has_zero, has_union, has_difference}
use Rattle.job.specs.Job.{Action}
use Rattle.timeline.specs.Step.{Step, union_of}
use Rattle.timeline.specs.Timeline.{if_stops, deleted_at, added_at, held}
use Rattle.timeline.specs.Places.{here, EachStep}
use Rattle.timeline.proofs.Places.{each_rest}

-- fact n of one timeline is fact m of another: the same steps add and delete it
pub held_by_fact : (S R : ℕ) (P Q : List Step) (n m : ℕ) → has S n ≡ has R m
    → ((t : ℕ) → has (deleted_at t P) n ≡ has (deleted_at t Q) m) → ((t : ℕ) → has (added_at t P) n ≡ has (added_at t Q) m)
    → (t : ℕ) → has (held S P t) n ≡ has (held R Q t) m
held_by_fact S R P Q n m start deleted added zero = start
held_by_fact S R P Q n m start deleted added (suc t) =
    has_union (difference (held S P t) (deleted_at (suc t) P)) (added_at (suc t) P) n
    ∙ ap₂ ◌||◌
    (has_difference (held S P t) (deleted_at (suc t) P) n
    ∙ ap₂ (λ (a b : Bool). a && not b) (held_by_fact S R P Q n m start deleted added t) (deleted (suc t))
    ∙ sym (has_difference (held R Q t) (deleted_at (suc t) Q) m))
    (added (suc t))
    ∙ sym (has_union (difference (held R Q t) (deleted_at (suc t) Q)) (added_at (suc t) Q) m)

-- ---- the sets, added or deleted, of the steps that stop at minute t
abbrev pub at_stop : (Action → ℕ) → ℕ → List Step → ℕ
at_stop set t P = union_of (λ x. if_stops t (set x.action) x) P

-- fact n is in none of them
pub none_at_stop : (set : Action → ℕ) (t n : ℕ) (P : List Step) → EachStep (λ x. has (set x.action) n ≡ false) P
    → has (at_stop set t P) n ≡ false
none_at_stop set t n [] h = has_zero n
none_at_stop set t n (x ∷ P) h =
    has_union _ _ n
    ∙ ap₂ ◌||◌ (none_when (eqb x.stop t) (set x.action) (h x P here))
    (none_at_stop set t n P (each_rest (λ y. has (set y.action) n ≡ false) x P h))
  where
    none_when : (b : Bool) (s : ℕ) → has s n ≡ false → has (cond b s 0) n ≡ false
    none_when true s e = e
    none_when false s e = has_zero n

-- fact n of steps that are mapped from others is fact m of those
pub same_at_stop : (set : Action → ℕ) (f : Step → Step) (t n m : ℕ) (P : List Step)
    → EachStep (λ x. ((f x).stop ≡ x.stop) × (has (set (f x).action) n ≡ has (set x.action) m)) P
    → has (at_stop set t (map f P)) n ≡ has (at_stop set t P) m
same_at_stop set f t n m [] h = has_zero n ∙ sym (has_zero m)
same_at_stop set f t n m (x ∷ P) h =
    let now = h x P here in
    has_union _ _ n
    ∙ ap₂ ◌||◌
    (ap (λ (s : ℕ). has (cond (eqb s t) (set (f x).action) 0) n) now.0
    ∙ same_when (eqb x.stop t) (set (f x).action) (set x.action) now.1)
    (same_at_stop set f t n m P (each_rest _ x P h))
    ∙ sym (has_union _ _ m)
  where
    same_when : (b : Bool) (s r : ℕ) → has s n ≡ has r m → has (cond b s 0) n ≡ has (cond b r 0) m
    same_when true s r e = e
    same_when false s r e = has_zero n ∙ sym (has_zero m)
