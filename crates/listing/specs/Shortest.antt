-- The least end of the accepted plans, where every plan counts. Inner functions and laws alone cite it.
-- Assumes nothing.
use Rattle.std.specs.Prelude.{ℕ, ◌≤◌, ◌≡◌, List}
use Rattle.job.specs.Job.{Job}
use Rattle.timeline.specs.Step.{steps_in}
use Rattle.timeline.specs.Timeline.{end}
use Rattle.timeline.specs.Accepted.{Accepted}

-- some accepted plan ends at minute T, and none ends earlier
pub record ShortestEnd (J : Job) (goal T : ℕ) : Type 0 where
  pub plan : (bytes : List ℕ) × Accepted J goal bytes × (end (steps_in J bytes) ≡ T)
  pub least : (bytes : List ℕ) → Accepted J goal bytes → T ≤ end (steps_in J bytes)
