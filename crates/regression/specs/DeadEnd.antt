-- Dead ends: chosen steps that no normal plan has as its last ones. New steps stand at place b of the plan's order or
-- behind it, kept steps before it.
-- Assumes nothing.
use Rattle.std.specs.Prelude.{ℕ, ◌-◌, ◌<◌, ◌≤◌, ◌≡◌, Bool, true, false, ◌⊎◌, List, ◌++◌, length}
use Rattle.facts.specs.FactSet.{meets}
use Rattle.job.specs.Job.{Job}
use Rattle.timeline.specs.Step.{Step, step_of}
use Rattle.timeline.specs.From.{From, IsNew}
use Rattle.timeline.specs.Places.{EachStep}
use Rattle.timeline.specs.Keeps.{PlanOf}
use Rattle.times.specs.Earliest.{action_of}
use Rattle.regression.specs.Normal.{critical, blocked}

-- A plan of the job's own steps with all stops by T, in any order, none of whose new steps can be dropped or start a
-- minute later: each adds a critical fact, and is blocked.
pub record NormalPlan (J : Job) (b : From) (goal T : ℕ) (P : List Step) : Type 0 where
  pub plan : PlanOf J T goal P
  pub critical_facts : EachStep (λ x. IsNew b x → critical J goal T P x ≡ true) P
  pub blocked_steps : EachStep (λ x. IsNew b x → blocked J T P x ≡ true) P
  pub effects : EachStep (λ x. meets x.action.adds x.action.deletes ≡ false) P
  pub few_steps : length P ≤ 32

-- a new step that stops by minute t
abbrev pub Until : From → ℕ → Step → Type 0
Until b t x = IsNew b x × (x.start < x.stop) × (x.stop ≤ t)

-- a new step that stops before minute t, or at t with an action that is not decided yet
abbrev pub Open : From → ℕ → (ℕ → Bool) → Step → Type 0
Open b t decided x =
    IsNew b x × (x.start < x.stop)
    × ((x.stop < t) ⊎ ((x.stop ≡ t) × (decided x.number ≡ false)))

-- no normal plan has the steps L and else only steps that are X
abbrev pub Dead : Job → From → ℕ → ℕ → (Step → Type 0) → List Step → Type 0
Dead J b goal T X L = (E : List Step) → EachStep X E → NormalPlan J b goal T (E ++ L) → ⊥

-- the step of action i that stops at minute t
abbrev pub step_stopping : Job → ℕ → ℕ → Step
step_stopping J i t = step_of J i (t - (action_of J i).duration)
