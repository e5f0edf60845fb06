-- The kept steps of a begun day, and what is left of them in a value.
-- Assumes nothing.
use Rattle.std.specs.Prelude.{ℕ, ◌+◌, ◌≤◌, ◌<◌, ◌≡◌, List, [], ◌∷◌, ◌++◌, map, length}
use Rattle.lists.specs.Lists.{Each}
use Rattle.job.specs.declared.Counts.{Counts}
use Rattle.timeline.specs.declared.Step as value
use Rattle.timeline.specs.Step.{Step}
use Rattle.timeline.specs.Value.{step_of_value}
use Rattle.earliest.specs.declared.extra.Extra.{Extra}
use Rattle.earliest.specs.Extra.{extra_actions}
use Rattle.begun.specs.RestOfDay.{running, rest_action}

-- a step has begun before minute M, and stops its duration after its start
abbrev pub HasBegun : ℕ → ℕ → ℕ → ℕ → Type 0
HasBegun M start duration stop = (start < M) × (stop ≡ start + duration)

abbrev pub Begun : ℕ → List Step → Type 0
Begun M P = Each (λ x. HasBegun M x.start x.action.duration x.stop) P

-- the actions in the value have what is left of the step behind them, if it still runs in minute M
pub record WithRest (extra : Extra) (step : value.Step) (M : ℕ) (r : Extra) : Type 0 where
  pub count : r.count ≤ extra.count + 1
  pub room : length r.actions ≡ 32
  pub actions : (n : Counts)
      → extra_actions n r ≡ extra_actions n extra ++ map (rest_action M) (running M (step_of_value n step ∷ []))
