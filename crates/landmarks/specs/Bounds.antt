-- What a table of times says of the plans of a day that has begun, whatever it was computed from.
-- Assumes nothing.
use Rattle.std.specs.Prelude.{ℕ, ◌+◌, ◌≤◌, List, ◌++◌, ◌≡◌, true, false}
use Rattle.facts.specs.FactSet.{has, Subset}
use Rattle.job.specs.Job.{Job}
use Rattle.timeline.specs.Step.{Step}
use Rattle.timeline.specs.Timeline.{held}
use Rattle.timeline.specs.Places.{Place, EachStep}
use Rattle.timeline.specs.Keeps.{PlanOf}
use Rattle.earliest.specs.Numbers.{set_number}
use Rattle.landmarks.specs.Landmarks.{marks_of}

-- in every plan of the kept steps K and else steps that start at minute b or later, a set that holds together at a
-- minute from b on has a time, from the origin on, that is no later, and is reachable
abbrev pub TimesBound : Job → ℕ → List Step → ℕ → List ℕ → Type 0
TimesBound J b K origin times =
    (T goal : ℕ) → b ≤ T → (N : List Step) → EachStep (λ x. b ≤ x.start) N → PlanOf J T goal (N ++ K)
    → (set m : ℕ) → b ≤ m → Subset set (held J.start (N ++ K) m)
    → (set_number times set J.facts + origin ≤ m) × (set_number times set J.facts ≤ 530400)

-- in such a plan each landmark of a set that holds at a minute t from b on, but for those that kept steps may have
-- given, is added by one of the other steps that stops by t, and is not at hand
abbrev pub AddedByNew : Job → ℕ → List Step → ℕ → ℕ → ℕ → (ℕ → ℕ) → Type 0
AddedByNew J b K given hand n marks =
    (T goal : ℕ) (N : List Step) → EachStep (λ x. b ≤ x.start) N → PlanOf J T goal (N ++ K)
    → (set t : ℕ) → b ≤ t → Subset set (held J.start (N ++ K) t) → (p : ℕ) → has (marks_of marks n set) p ≡ true
    → has given p ≡ false
    → ((x : Step) × (R : List Step) × Place x R N × (x.stop ≤ t) × (has x.action.adds p ≡ true))
    × (has hand p ≡ false)
