-- `kept_steps` meets its contract: of the first i steps those that start before the minute are kept.
use Rattle.replanner.specs.Kept.{Keeps}
use Rattle.replanner.proofs.kept.kept_steps.Given as goal

abbrev pub invariant-loop-step : goal.invariant-loop-step
invariant-loop-step l = Keeps l.fn.plan l.step-index l.minute l.kept
