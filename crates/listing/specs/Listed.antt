-- The plans of the list of all the shortest days, and their order.
-- Assumes nothing.
use Rattle.std.specs.Prelude.{ℕ, ◌≤◌, ◌≡◌, Bool, true, false, ◌&&◌, ◌||◌, List, [], ◌∷◌, eqb}
use Rattle.timeline.specs.Places.{Place}
use Rattle.job.specs.Job.{Job}
use Rattle.timeline.specs.Step.{Step, steps_in, plan_bytes, before}
use Rattle.timeline.specs.Timeline.{end}
use Rattle.timeline.specs.Accepted.{Accepted}

-- "every accepted plan that ends at the least minute and from which no single step can be dropped with the rest still
-- accepted"; its steps are those that its bytes say
pub record Listed (J : Job) (goal : ℕ) (P : List Step) : Type 0 where
  pub in_bytes : steps_in J (plan_bytes P) ≡ P
  pub accepted : Accepted J goal (plan_bytes P)
  pub least : (bytes : List ℕ) → Accepted J goal bytes → end P ≤ end (steps_in J bytes)
  pub none_spare : (x : Step) (Q : List Step) → Place x Q P → Accepted J goal (plan_bytes Q) → ⊥

-- two steps of the same start and action
abbrev pub same_step : Step → Step → Bool
same_step x y = eqb x.start y.start && eqb x.number y.number

-- "Plans are compared step by step, start before action; a plan that begins another comes first."
abbrev pub comes_first : List Step → List Step → Bool
comes_first [] [] = false
comes_first [] (y ∷ R) = true
comes_first (x ∷ P) [] = false
comes_first (x ∷ P) (y ∷ R) = before x y || (same_step x y && comes_first P R)
