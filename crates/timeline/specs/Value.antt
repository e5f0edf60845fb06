-- The steps that a plan by value holds.
-- Assumes nothing.
use Rattle.std.specs.Prelude.{ℕ, List, get_or}
use Rattle.lists.specs.Lists.{tabulate}
use Rattle.job.specs.declared.Counts.{Counts}
use Rattle.job.specs.Job.{beyond, action_in}
use Rattle.timeline.specs.declared.Step as value
use Rattle.timeline.specs.declared.Plan.{Plan}
use Rattle.timeline.specs.Step.{Step}

-- what an array of steps has past its end
abbrev pub beyond_step : value.Step
beyond_step = record { number = 0; action = beyond; start = 0; stop = 0 }

abbrev pub step_of_value : Counts → value.Step → Step
step_of_value counts x =
    record { number = x.number; action = action_in counts x.action; start = x.start; stop = x.stop }

abbrev pub step_at : Plan → ℕ → Step
step_at plan i = step_of_value plan.counts (get_or plan.steps i beyond_step)

abbrev pub steps_of : Plan → List Step
steps_of plan = tabulate plan.length (step_at plan)
