-- What is left of a day from the first free minute on, from what crates begun and earliest promise of it.
-- Assumes nothing.
use Prim.Native.Nat.{ℕ, ◌<◌}
use mathlib.Core.Path.{◌≡◌, sym, ap, ap₂, ◌∙◌, subst}
use mathlib.Core.List.{List, map}
use Rattle.facts.specs.FactSet.{union}
use Rattle.job.specs.declared.Job as value
use Rattle.job.specs.declared.Counts.{Counts}
use Rattle.job.specs.Job.{job_in}
use Rattle.job.specs.Resumed.{resumed_value}
use Rattle.timeline.specs.declared.Plan.{Plan}
use Rattle.timeline.specs.Step.{Step, union_of}
use Rattle.timeline.specs.Timeline.{held}
use Rattle.timeline.specs.Value.{steps_of}
use Rattle.tables.specs.Tables.{chosen}
use Rattle.tables.specs.declared.Steps.{Steps}
use Rattle.earliest.specs.declared.extra.Extra.{Extra}
use Rattle.earliest.specs.Extra.{extra_actions, with_extra}
use Rattle.earliest.specs.Sweep.{Filled}
use Rattle.begun.specs.RestOfDay.{running, rest_action, rest_of_job}
use Rattle.begun.specs.Kept.{Begun}
use Rattle.begun.proofs.KeptSteps.{kept_have_begun}
use Rattle.begun.proofs.RestTimes.{rest_times_filled}
use Rattle.landmarks.proofs.TimeBounds.{rest_bounds}
use Rattle.leaf.proofs.InOrder.{each_chosen}
use Rattle.solver.specs.Task.{StartBefore, RestTimes}

-- the plan has the kept steps, which start before the minute
module _ (day : value.Job) (kept : Steps) (minute : ℕ) (early : StartBefore minute kept) (plan : Plan)
    (same : plan.counts ≡ day.counts) (steps : steps_of plan ≡ chosen (job_in day) kept) where
  abbrev K : List Step
  K = chosen (job_in day) kept

  pub plan_has_begun : Begun minute (steps_of plan)
  plan_has_begun = subst (Begun minute) (sym steps) (kept_have_begun (job_in day) kept minute kept.count early)

  -- the rest starts with what holds at the minute, and has what is left of the running steps behind its actions
  pub rest_times : (start : ℕ) (stores : List ℕ) (rest : value.Job) (extra : Extra) (times : List ℕ) (hand : ℕ)
      → start ≡ held day.start (steps_of plan) minute → rest ≡ resumed_value day start stores
      → extra_actions plan.counts extra ≡ map (rest_action minute) (running minute (steps_of plan))
      → Filled (with_extra rest extra) times
      → hand ≡ union start (union_of (λ x. x.action.adds) (running minute (steps_of plan)))
      → RestTimes day kept minute times hand
  rest_times start stores rest extra times hand holds is left filled gives =
      record {
        whole = filled.able.kept.whole;
        bound = rest_bounds (job_in day) minute K
            (each_chosen (λ x. x.start < minute) (job_in day) kept kept.count early) times of_rest;
        hand = gives
            ∙ ap₂ (λ (set : ℕ) (P : List Step). union set (union_of (λ x. x.action.adds) (running minute P)))
            starts steps;
      }
    where
      starts : start ≡ held day.start K minute
      starts = holds ∙ ap (λ (P : List Step). held day.start P minute) steps

      rests : extra_actions day.counts extra ≡ map (rest_action minute) (running minute K)
      rests =
          ap (λ (n : Counts). extra_actions n extra) (sym same) ∙ left
          ∙ ap (λ (P : List Step). map (rest_action minute) (running minute P)) steps

      of_rest : Filled (rest_of_job (job_in day) minute K) times
      of_rest =
          rest_times_filled day minute K start stores extra starts rests times
          (subst (λ (j : value.Job). Filled (with_extra j extra) times) is filled)
