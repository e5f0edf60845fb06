-- What is left at minute M of the steps of a list, step by step, and what is gathered over it.
-- Assumes nothing.
use Prim.Native.Nat.{ℕ, ◌<◌, ◌≤◌}
use mathlib.Core.Path.{◌≡◌, refl, sym, ap, ap₂, ◌∙◌}
use mathlib.Core.List.{List, [], ◌∷◌}
use native.Mathlib.Omega.{arith}
use lib.ListN.{length}
use Rattle.facts.specs.FactSet.{union}
use Rattle.facts.proofs.SetLaws.{union_zero_left}
use Rattle.job.specs.Job.{Job}
use Rattle.timeline.specs.Step.{Step, total, union_of}
use Rattle.timeline.specs.Places.{Place, here, there, EachStep}
use Rattle.timeline.specs.Keeps.{OfJob}
use Rattle.begun.specs.RestOfDay.{rest_step}

-- x runs on after M, and what is left of it is a step of the job J with number n and length d; `was` gives the number
-- that x had
pub record LeftAs (J : Job) (M : ℕ) (was : ℕ → ℕ) (n d : ℕ) (x : Step) : Type 0 where
  pub runs : M < x.stop
  pub number : was n ≡ x.number
  pub known : n < length J.actions
  pub own : OfJob J (rest_step M n d x)

-- the second list is what is left of the first
pub data Rest (J : Job) (M : ℕ) (was : ℕ → ℕ) : List Step → List Step → Type 0 where
  none : Rest J M was [] []
  done : {x : Step} {P R : List Step} → x.stop ≤ M → Rest J M was P R → Rest J M was (x ∷ P) R
  left : {x : Step} {P R : List Step} (n d : ℕ) → LeftAs J M was n d x → Rest J M was P R
      → Rest J M was (x ∷ P) (rest_step M n d x ∷ R)

module _ {J : Job} {M : ℕ} {was : ℕ → ℕ} where
  pub each_of_rest : (F : Step → Type 0) {P R : List Step} → Rest J M was P R
      → ((x : Step) (Q : List Step) → Place x Q P → (n d : ℕ) → LeftAs J M was n d x → F (rest_step M n d x))
      → EachStep F R
  each_of_rest F (done {x} l r) h y S i = each_of_rest F r (λ z Q j. h z (x ∷ Q) (there j)) y S i
  each_of_rest F (left {x} {P} n d l r) h y S here = h x P here n d l
  each_of_rest F (left {x} n d l r) h y S (there {Q} i) = each_of_rest F r (λ z R j. h z (x ∷ R) (there j)) y Q i
  each_of_rest F none h y S i = elim i [ ]

  pub rest_total : (f g : Step → ℕ) {P R : List Step} → Rest J M was P R
      → ((x : Step) (n d : ℕ) → LeftAs J M was n d x → f (rest_step M n d x) ≤ g x) → total f R ≤ total g P
  rest_total f g none h = omega arith
  rest_total f g (done l r) h = let k = rest_total f g r h in omega arith
  rest_total f g (left {x} n d l r) h = let k = rest_total f g r h in let e = h x n d l in omega arith

  pub rest_union : (f g : Step → ℕ) {P R : List Step} → Rest J M was P R → ((x : Step) → x.stop ≤ M → g x ≡ 0)
      → ((x : Step) (n d : ℕ) → LeftAs J M was n d x → f (rest_step M n d x) ≡ g x) → union_of f R ≡ union_of g P
  rest_union f g none z h = refl
  rest_union f g (done {x} {P} l r) z h =
      rest_union f g r z h ∙ sym (ap (λ (s : ℕ). union s (union_of g P)) (z x l) ∙ union_zero_left (union_of g P))
  rest_union f g (left {x} n d l r) z h = ap₂ union (h x n d l) (rest_union f g r z h)
