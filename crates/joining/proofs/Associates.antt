-- Joins associate: three plans joined from the left or from the right are the same day, or too long both ways.
-- Assumes nothing.
use Prim.Native.Nat.{ℕ, ◌+◌, ◌≤◌, max}
use mathlib.Core.Path.{◌≡◌, refl, sym, ap, ap₂, ◌∙◌}
use mathlib.Core.Bool.{Bool, true, false, ◌||◌, or-true}
use mathlib.Core.Logic.{⊎_elim}
use mathlib.Core.List.{List, [], ◌∷◌, ◌++◌, map, map-append, append_assoc}
use native.Mathlib.Omega.{arith}
use lib.ListN.{length, length-append, length-map}
use borrow.Author.Tests.{ltb-true, lt-ltb}
use Rattle.job.specs.Job.{Job}
use Rattle.job.specs.Valid.{over}
use Rattle.timeline.specs.Step.{Step}
use Rattle.timeline.specs.Timeline.{end}
use Rattle.timeline.proofs.Tests.{or_cases}
use Rattle.joining.specs.Join.{later_by, join_steps, too_long}
use Rattle.joining.specs.Parts.{Joined, day, day_too_long, unless_too_long, join, and_then}

-- the end of steps some minutes later
end_later : (n : ℕ) (x : Step) (P : List Step) → end (map (later_by n) (x ∷ P)) ≡ n + end (x ∷ P)
end_later n x [] = omega arith
end_later n x (y ∷ P) = let rest = end_later n y P in omega arith

end_append : (A B : List Step) → end (A ++ B) ≡ max (end A) (end B)
end_append [] B = omega arith
end_append (x ∷ A) B = let rest = end_append A B in omega arith

later_twice : (n m k : ℕ) → n + m ≡ k → (A : List Step) → map (later_by n) (map (later_by m) A) ≡ map (later_by k) A
later_twice n m k e [] = refl
later_twice n m k e (x ∷ A) =
    let start : n + (m + x.start) ≡ k + x.start = omega arith in
    let stop : n + (m + x.stop) ≡ k + x.stop = omega arith in
    ap₂ {C = List Step} (λ (y : Step) (P : List Step). y ∷ P)
    (ap₂ {C = Step} (λ (s t : ℕ). record { number = x.number; action = x.action; start = s; stop = t }) start stop)
    (later_twice n m k e A)

module _ (h : ℕ) where
  pub end_joined : (x y : Step) (A B : List Step)
      → end ((x ∷ A) ++ map (later_by (end (x ∷ A) + h)) (y ∷ B)) ≡ end (x ∷ A) + h + end (y ∷ B)
  end_joined x y A B =
      let sum = end_append (x ∷ A) (map (later_by (end (x ∷ A) + h)) (y ∷ B)) in
      let late = end_later (end (x ∷ A) + h) y B in
      omega arith

  pub joins_associate : (A B C : List Step) → join_steps h (join_steps h A B) C ≡ join_steps h A (join_steps h B C)
  unfolding join_steps
  joins_associate [] B C = refl
  joins_associate (x ∷ A) [] C = refl
  joins_associate (x ∷ A) (y ∷ B) [] = refl
  joins_associate (x ∷ A) (y ∷ B) (z ∷ C) =
      let n : ℕ = end (x ∷ A) + h in
      let ends = end_joined x y A B in
      let last : ℕ = end ((x ∷ A) ++ map (later_by n) (y ∷ B)) + h in
      let sum : n + (end (y ∷ B) + h) ≡ last = omega arith in
      append_assoc (x ∷ A) (map (later_by n) (y ∷ B)) (map (later_by last) (z ∷ C))
      ∙ ap (λ (P : List Step). (x ∷ A) ++ (map (later_by n) (y ∷ B) ++ P))
      (sym (later_twice n (end (y ∷ B) + h) last sum (z ∷ C)))
      ∙ ap (λ (P : List Step). (x ∷ A) ++ P)
      (sym (map-append (later_by n) (y ∷ B) (map (later_by (end (y ∷ B) + h)) (z ∷ C))))

  -- what a part is too long for, the whole is too long for
  abbrev AtMost : List Step → List Step → Type 0
  AtMost P R = (length P ≤ length R) × (end P ≤ end R)

  at_most_left : (A B : List Step) → AtMost A (join_steps h A B)
  unfolding join_steps
  at_most_left [] B = (omega arith, omega arith)
  at_most_left (x ∷ A) [] = (omega arith, omega arith)
  at_most_left (x ∷ A) (y ∷ B) =
      let ends = end_joined x y A B in
      let sum = length-append (x ∷ A) (map (later_by (end (x ∷ A) + h)) (y ∷ B)) in
      (omega arith, omega arith)

  at_most_right : (A B : List Step) → AtMost B (join_steps h A B)
  unfolding join_steps
  at_most_right [] B = (omega arith, omega arith)
  at_most_right (x ∷ A) [] = (omega arith, omega arith)
  at_most_right (x ∷ A) (y ∷ B) =
      let ends = end_joined x y A B in
      let sum = length-append (x ∷ A) (map (later_by (end (x ∷ A) + h)) (y ∷ B)) in
      let same = length-map (y ∷ B) (later_by (end (x ∷ A) + h)) in
      (omega arith, omega arith)

  module _ (J : Job) where
    too_long_more : (P R : List Step) → AtMost P R → too_long J P ≡ true → too_long J R ≡ true
    too_long_more P R l t =
        let few = l.0 in
        let early = l.1 in
        ⊎_elim
        (λ many. ap (λ (b : Bool). b || over J.deadline (end R))
        (let m = ltb-true 32 (length P) many in lt-ltb 32 (length R) (omega arith)))
        (λ late. ap (λ (b : Bool). over 32 (length R) || b)
        (let m = ltb-true J.deadline (end P) late in lt-ltb J.deadline (end R) (omega arith))
        ∙ or-true (over 32 (length R)))
        (or_cases (over 32 (length P)) _ t)

    by_test : (b : Bool) (P : List Step) (f : List Step → Joined) → (b ≡ true → f P ≡ day_too_long)
        → and_then (elim b [ true ↦ day_too_long | false ↦ day P ]) f ≡ f P
    by_test true P f g = sym (g refl)
    by_test false P f g = refl

    too_long_lem : (P : List Step) → too_long J P ≡ true → unless_too_long J P ≡ day_too_long
    too_long_lem P t = ap {B = Joined} (λ (b : Bool). elim b [ true ↦ day_too_long | false ↦ day P ]) t

    then_joined : (P : List Step) (f : List Step → List Step) → AtMost P (f P)
        → and_then (unless_too_long J P) (λ Q. unless_too_long J (f Q)) ≡ unless_too_long J (f P)
    then_joined P f l =
        by_test (too_long J P) P (λ Q. unless_too_long J (f Q)) (λ t. too_long_lem (f P) (too_long_more P (f P) l t))

    -- joined from the left or from the right: the same day, or too long both ways
    pub days_associate : (A B C : List Step)
        → and_then (join J h A B) (λ P. join J h P C) ≡ and_then (join J h B C) (λ P. join J h A P)
    unfolding join
    days_associate A B C =
        then_joined (join_steps h A B) (λ P. join_steps h P C) (at_most_left (join_steps h A B) C)
        ∙ ap (unless_too_long J) (joins_associate A B C)
        ∙ sym (then_joined (join_steps h B C) (λ P. join_steps h A P) (at_most_right A (join_steps h B C)))
