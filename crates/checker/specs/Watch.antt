-- What the clock's run over a plan promises.
-- Assumes nothing.
use Rattle.std.specs.Prelude.{ℕ, ◌≡◌, Bool, not, ◌&&◌, [], ◌∷◌, eqb, Result}
use Rattle.lists.specs.Lists.{any}
use Rattle.facts.specs.FactSet.{subset}
use Rattle.job.specs.Job.{Job}
use Rattle.timeline.specs.declared.Plan.{Plan}
use Rattle.timeline.specs.Step.{Step}
use Rattle.timeline.specs.Timeline.{end, held}
use Rattle.timeline.specs.Accepted.{lacks_need}
use Rattle.timeline.specs.Value.{steps_of}
use Rattle.checker.specs.declared.clock.Clock.{Clock}
use Rattle.job.specs.declared.refusal.Refusal.{Refusal}
use Rattle.job.specs.declared.refusal.Refusal.TheVariants.{NeedMissing}
use Rattle.job.specs.Refusal.{◌when◌, first, answer_by}

-- the step starts at the clock's minute and lacks a fact that it needs
abbrev pub lacks_at : Clock → Step → Bool
lacks_at clock x = eqb x.start clock.minute && not (subset x.action.needs clock.facts)

-- the clock at the plan's end, with the facts that hold then
abbrev pub clock_at_end : ℕ → Plan → Clock
clock_at_end start plan =
    record { minute = end (steps_of plan); facts = held start (steps_of plan) (end (steps_of plan)) }

-- a missing need stops the run; otherwise it ends at the plan's end
abbrev pub Watches : ℕ → Plan → Result Clock Refusal → Type 0
Watches start plan answer =
    (J : Job) → J.start ≡ start
    → answer ≡ answer_by (first (NeedMissing when any (lacks_need J (steps_of plan)) (steps_of plan) ∷ [])) (clock_at_end start plan)
