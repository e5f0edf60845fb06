-- A step at a place of a list, with the rest: what is gathered over the list, from the step and the rest.
-- Assumes nothing.
use Prim.Native.Nat.{ℕ, suc, ◌+◌, ◌≤◌, max}
use mathlib.Core.Path.{◌≡◌, refl, sym, ap, ap₂, ◌∙◌}
use mathlib.Core.Bool.{Bool, true, false, ◌||◌}
use mathlib.Core.Logic.{◌⊎◌, inl, inr, ⊎_elim}
use mathlib.Core.List.{List, [], ◌∷◌, ◌++◌, map}
use native.Mathlib.Omega.{arith}
use lib.ListN.{length}
use Rattle.lists.specs.Lists.{any, Each}
use Rattle.lists.proofs.Bools.{or_left, or_right}
use Rattle.facts.specs.FactSet.{union}
use Rattle.facts.proofs.SetLaws.{union_comm, union_assoc}
use Rattle.timeline.specs.Step.{Step, any_pair, total, largest, union_of}
use Rattle.timeline.specs.Places.{Place, here, there, Member, EachStep}
use Rattle.timeline.proofs.Tests.{decided, not_both, or_cases, or_neither, or_swap, or_exchange}

-- ---- other steps of the list
-- another step is x or stands in the rest
pub split_place : {x y : Step} {Q R P : List Step} → Place x Q P → Place y R P → (y ≡ x) ⊎ Member y Q
split_place here here = inl refl
split_place here (there j) = inr (_, j)
split_place (there i) here = inr (_, here)
split_place (there i) (there j) = ⊎_elim (λ e. inl e) (λ r. inr (_, there r.1)) (split_place i j)

-- a step of the rest is a step of the list
pub place_wider : {x y : Step} {Q R P : List Step} → Place x Q P → Place y R Q → Member y P
place_wider {x} here j = (_, there {y = x} j)
place_wider (there i) here = (_, here)
place_wider (there {y} i) (there j) = let r = place_wider i j in (y ∷ r.0, there r.1)

pub place_append : {x : Step} {Q P : List Step} (K : List Step) → Place x Q P → Place x (Q ++ K) (P ++ K)
place_append K here = here
place_append K (there i) = there (place_append K i)

pub place_after : {x : Step} {Q P : List Step} (K : List Step) → Place x Q P → Place x (K ++ Q) (K ++ P)
place_after [] i = i
place_after (y ∷ K) i = there (place_after K i)

-- a step of two lists is a step of one
pub append_cases : {x : Step} (P K : List Step) {Q : List Step} → Place x Q (P ++ K) → Member x P ⊎ Member x K
append_cases [] K i = inr (_, i)
append_cases (y ∷ P) K here = inl (_, here)
append_cases (y ∷ P) K (there i) = ⊎_elim (λ r. inl (_, there r.1)) (λ r. inr r) (append_cases P K i)

pub length_place : {x : Step} {Q P : List Step} → Place x Q P → length P ≡ suc (length Q)
length_place here = refl
length_place (there i) = ap suc (length_place i)

-- ---- each step
pub each_here : (F : Step → Type 0) (x : Step) (P : List Step) → EachStep F (x ∷ P) → F x
each_here F x P h = h x P here

pub each_rest : (F : Step → Type 0) (x : Step) (P : List Step) → EachStep F (x ∷ P) → EachStep F P
each_rest F x P h y Q i = h y (x ∷ Q) (there i)

pub each_cons : (F : Step → Type 0) (x : Step) (P : List Step) → F x → EachStep F P → EachStep F (x ∷ P)
each_cons F x P e h y Q here = e
each_cons F x P e h y Q (there {Q = R} i) = h y R i

pub each_append : (F : Step → Type 0) (P K : List Step) → EachStep F P → EachStep F K → EachStep F (P ++ K)
each_append F P K p k x Q i = ⊎_elim (λ w. p x w.0 w.1) (λ w. k x w.0 w.1) (append_cases P K i)

pub each_wider : (F : Step → Type 0) {x : Step} {Q P : List Step} → Place x Q P → EachStep F P → EachStep F Q
each_wider F i h y R j = let r = place_wider i j in h y r.0 r.1

pub each_step : (F : Step → Type 0) (P : List Step) → Each F P → EachStep F P
each_step F (y ∷ P) e x Q here = e.0
each_step F (y ∷ P) e x Q (there {Q = R} i) = each_step F P e.1 x R i
each_step F [] e x Q x4 = elim x4 [ ]

pub each_map : (F : Step → Type 0) (f : Step → Step) (P : List Step) → EachStep (λ x. F (f x)) P → EachStep F (map f P)
each_map F f [] h = each_step F [] tt
each_map F f (x ∷ P) h =
    each_cons F (f x) (map f P) (h x P here) (each_map F f P (each_rest (λ y. F (f y)) x P h))

pub each_of_steps : (F : Step → Type 0) (P : List Step) → EachStep F P → Each F P
each_of_steps F [] h = tt
each_of_steps F (x ∷ P) h = (each_here F x P h, each_of_steps F P (each_rest F x P h))

-- ---- some step passes a test
module _ (test : Step → Bool) where
  pub any_place : {x : Step} {Q P : List Step} → Place x Q P → any test P ≡ (test x || any test Q)
  unfolding any
  any_place here = refl
  any_place {x} (there {y} {Q} i) =
      ap (λ (b : Bool). test y || b) (any_place i) ∙ or_swap (test y) (test x) (any test Q)

  pub any_at : {x : Step} {Q P : List Step} → Place x Q P → test x ≡ true → any test P ≡ true
  any_at i h = any_place i ∙ rw h

  pub find_any : (P : List Step) → any test P ≡ true → (x : Step) × (Q : List Step) × Place x Q P × (test x ≡ true)
  unfolding any
  find_any [] h = not_both h refl
  find_any (x ∷ P) h =
      ⊎_elim (λ e. (x, P, here, e)) (λ e. let r = find_any P e in (r.0, x ∷ r.1, there r.2, r.3))
      (or_cases (test x) (any test P) h)

  pub none_of_any : (P : List Step) → any test P ≡ false → EachStep (λ x. test x ≡ false) P
  none_of_any P h x Q i = or_left (test x) (any test Q) (sym (any_place i) ∙ h)

  pub any_of_none : (P : List Step) → EachStep (λ x. test x ≡ false) P → any test P ≡ false
  any_of_none P h =
      ⊎_elim (λ e. let r = find_any P e in not_both r.3 (h r.0 r.1 r.2)) (λ e. e) (decided (any test P))

  -- the steps of P are steps of R
  pub any_members : (P R : List Step) → EachStep (λ x. Member x R) P → any test P ≡ true → any test R ≡ true
  any_members P R h e =
      let r = find_any P e in
      any_at (h r.0 r.1 r.2).1 r.3

-- ---- sums, largest numbers and unions
pub total_place : (f : Step → ℕ) {x : Step} {Q P : List Step} → Place x Q P → total f P ≡ f x + total f Q
total_place f here = refl
total_place f (there i) = let e = total_place f i in omega arith

pub total_append : (f : Step → ℕ) (P K : List Step) → total f (P ++ K) ≡ total f P + total f K
total_append f [] K = omega arith
total_append f (x ∷ P) K = let e = total_append f P K in omega arith

pub total_of_sums : (f g : Step → ℕ) (P : List Step) → total (λ x. f x + g x) P ≡ total f P + total g P
total_of_sums f g [] = refl
total_of_sums f g (x ∷ P) = let rest = total_of_sums f g P in omega arith

pub total_mono : (f g : Step → ℕ) (P : List Step) → EachStep (λ x. f x ≤ g x) P → total f P ≤ total g P
total_mono f g [] h = omega arith
total_mono f g (x ∷ P) h =
    let a = h x P here in
    let b = total_mono f g P (each_rest (λ y. f y ≤ g y) x P h) in
    omega arith

pub total_zero : (f : Step → ℕ) (P : List Step) → EachStep (λ x. f x ≡ 0) P → total f P ≡ 0
total_zero f [] h = refl
total_zero f (x ∷ P) h =
    let a = h x P here in let b = total_zero f P (each_rest (λ y. f y ≡ 0) x P h) in omega arith

pub largest_place : (f : Step → ℕ) {x : Step} {Q P : List Step} → Place x Q P → largest f P ≡ max (f x) (largest f Q)
largest_place f here = refl
largest_place f (there i) = let e = largest_place f i in omega arith

pub largest_at_least : (f : Step → ℕ) {x : Step} {Q P : List Step} → Place x Q P → f x ≤ largest f P
largest_at_least f i = let e = largest_place f i in omega arith

pub largest_at_most : (f : Step → ℕ) (m : ℕ) (P : List Step) → EachStep (λ x. f x ≤ m) P → largest f P ≤ m
largest_at_most f m [] h = omega arith
largest_at_most f m (x ∷ P) h =
    let a = h x P here in let b = largest_at_most f m P (each_rest (λ y. f y ≤ m) x P h) in omega arith

pub union_of_place : (f : Step → ℕ) {x : Step} {Q P : List Step} → Place x Q P
    → union_of f P ≡ union (f x) (union_of f Q)
union_of_place f here = refl
union_of_place f {x} (there {y} {Q} i) =
    ap (union (f y)) (union_of_place f i)
    ∙ sym (union_assoc (f y) (f x) (union_of f Q))
    ∙ ap (λ (s : ℕ). union s (union_of f Q)) (union_comm (f y) (f x))
    ∙ union_assoc (f x) (f y) (union_of f Q)

-- ---- some two steps pass a symmetric test
module _ (test : Step → Step → Bool) (symmetric : (x y : Step) → test x y ≡ test y x) where
  pub any_pair_place : {x : Step} {Q P : List Step} → Place x Q P → any_pair test P ≡ (any (test x) Q || any_pair test Q)
  unfolding any
  any_pair_place here = refl
  any_pair_place {x} (there {y} {Q} {P} i) =
      ap₂ ◌||◌ (any_place (test y) i ∙ ap (λ (b : Bool). b || any (test y) Q) (symmetric y x)) (any_pair_place i)
      ∙ or_exchange (test x y) (any (test y) Q) (any (test x) Q) (any_pair test Q)

  pub pair_none : {x y : Step} {Q R P : List Step} → Place x Q P → Place y R Q → any_pair test P ≡ false
      → test x y ≡ false
  pair_none {x} {y} {Q} i j h =
      none_of_any (test x) Q (or_left (any (test x) Q) (any_pair test Q) (sym (any_pair_place i) ∙ h)) y _ j

  pub pairs_of_rest : {x : Step} {Q P : List Step} → Place x Q P → any_pair test P ≡ false → any_pair test Q ≡ false
  pairs_of_rest {x} {Q} i h = or_right (any (test x) Q) (any_pair test Q) (sym (any_pair_place i) ∙ h)

  pub pairs_with : {x : Step} {Q P : List Step} → Place x Q P → EachStep (λ y. test x y ≡ false) Q
      → any_pair test Q ≡ false → any_pair test P ≡ false
  pairs_with {x} {Q} i h k = any_pair_place i ∙ or_neither (any_of_none (test x) Q h) k
