-- The list itself, the plan at a place of it, and its end.
-- Assumes nothing.
use Rattle.std.specs.Prelude.{ℕ, ◌≤◌, ◌≡◌, true, List, [], ◌∷◌, length}
use Rattle.lists.specs.Lists.{Each}
use Rattle.job.specs.Job.{Job}
use Rattle.timeline.specs.Step.{Step}
use Rattle.listing.specs.Listed.{Listed, comes_first}

-- each plan of L comes before all behind it, so "each stands once"
abbrev pub InOrder : List (List Step) → Type 0
InOrder [] = Unit
InOrder (P ∷ L) = Each (λ R. comes_first P R ≡ true) L × InOrder L

-- P is one of the plans of L
pub data OneOf (P : List Step) : List (List Step) → Type 0 where
  first : {L : List (List Step)} → OneOf P (P ∷ L)
  further : {R : List Step} {L : List (List Step)} → OneOf P L → OneOf P (R ∷ L)

-- L has the listed plans that are F, all of them and only those, in order, each once
pub record ListOf (J : Job) (goal : ℕ) (F : List Step → Type 0) (L : List (List Step)) : Type 0 where
  pub in_order : InOrder L
  pub only : (P : List Step) → OneOf P L → Listed J goal P × F P
  pub all : (P : List Step) → Listed J goal P → F P → OneOf P L

-- the whole list: "The list contains all such plans and only those."
abbrev pub WholeList : Job → ℕ → List (List Step) → Type 0
WholeList J goal L = ListOf J goal (λ P. Unit) L

-- the plan P stands at a place of the list, counted from 0: it is listed, and so many listed plans come before it
pub record AtPlace (J : Job) (goal place : ℕ) (P : List Step) : Type 0 where
  pub listed : Listed J goal P
  pub earlier : List (List Step)
  pub those : ListOf J goal (λ R. comes_first R P ≡ true) earlier
  pub count : length earlier ≡ place

-- 28: "the list ends before that place"
pub record EndsBefore (J : Job) (goal place : ℕ) : Type 0 where
  pub list : List (List Step)
  pub whole : WholeList J goal list
  pub short : length list ≤ place
