-- The plans that begin with some steps, and the plan before which so many of them stand. Inner functions and laws alone
-- cite these. Assumes nothing.
use Rattle.std.specs.Prelude.{ℕ, ◌+◌, ◌*◌, ◌<◌, ◌≡◌, true, ◌⊎◌, List, ◌∷◌, ◌++◌, length}
use Rattle.job.specs.Job.{Job}
use Rattle.timeline.specs.Step.{Step}
use Rattle.listing.specs.Listed.{Listed, comes_first}
use Rattle.listing.specs.Place.{ListOf}

-- P begins with k
abbrev pub Begins : List Step → List Step → Type 0
Begins k P = (N : List Step) × (P ≡ k ++ N)

-- P begins with k and goes on with a step that is X
pub record GoesOn (k : List Step) (X : Step → Type 0) (P : List Step) : Type 0 where
  pub step : Step
  pub rest : List Step
  pub whole : P ≡ k ++ (step ∷ rest)
  pub each : X step

-- x stands before minute u and action a
abbrev pub BeforePlace : ℕ → ℕ → Step → Type 0
BeforePlace u a x = (x.start < u) ⊎ ((x.start ≡ u) × (x.number < a))

-- the place of a step in the order of start, then action, as a number
abbrev pub place_of : Step → ℕ
place_of x = x.start * 64 + x.number

-- x stands before that place
abbrev pub Earlier : ℕ → Step → Type 0
Earlier place x = place_of x < place

-- among the listed plans that are F, P is the one before which so many stand
pub record FoundAt (J : Job) (goal : ℕ) (F : List Step → Type 0) (place : ℕ) (P : List Step) : Type 0 where
  pub listed : Listed J goal P
  pub among : F P
  pub earlier : List (List Step)
  pub those : ListOf J goal (λ R. F R × (comes_first R P ≡ true)) earlier
  pub count : length earlier ≡ place
