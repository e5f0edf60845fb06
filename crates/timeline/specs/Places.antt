-- Steps by their places in a list: members, what holds of each, and a list in another order.
-- Inner functions and laws alone cite these. Assumes nothing.
use Rattle.std.specs.Prelude.{List, [], ◌∷◌}
use Rattle.timeline.specs.Step.{Step}

-- the second list is the first with x put in at some place
pub data Place (x : Step) : List Step → List Step → Type 0 where
  here : {Q : List Step} → Place x Q (x ∷ Q)
  there : {y : Step} {Q P : List Step} → Place x Q P → Place x (y ∷ Q) (y ∷ P)

-- x is a step of P
abbrev pub Member : Step → List Step → Type 0
Member x P = (Q : List Step) × Place x Q P

-- F holds of each step of P
abbrev pub EachStep : (Step → Type 0) → List Step → Type 0
EachStep F P = (x : Step) (Q : List Step) → Place x Q P → F x

-- the second list in another order
pub data Permutation : List Step → List Step → Type 0 where
  empty : Permutation [] []
  next_step : {x : Step} {R Q P : List Step} → Place x Q P → Permutation R Q → Permutation (x ∷ R) P
