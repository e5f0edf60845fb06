-- A plan that keeps the rules up to a horizon: what an accepted plan is, with the goal at minute T for at its end.
-- Inner functions and laws alone cite these. Assumes nothing.
use Rattle.std.specs.Prelude.{ℕ, ◌<◌, ◌≤◌, ◌≡◌, false, List, length, get_or}
use Rattle.facts.specs.FactSet.{Subset}
use Rattle.job.specs.Resources.{store_cap}
use Rattle.job.specs.Job.{Job}
use Rattle.timeline.specs.Step.{Step, step_of, any_pair}
use Rattle.timeline.specs.Timeline.{held, in_use, used_up}
use Rattle.timeline.specs.Accepted.{clashing}
use Rattle.timeline.specs.Places.{EachStep}

-- each step lasts at least a minute
abbrev pub Lasting : List Step → Type 0
Lasting P = EachStep (λ x. x.start < x.stop) P

-- the needs of each step hold at its start
abbrev pub NeedsHold : ℕ → List Step → Type 0
NeedsHold S P = EachStep (λ x. Subset x.action.needs (held S P x.start)) P

-- the steps keep the rules up to minute T, at which the goal holds
pub record Keeps (J : Job) (T goal : ℕ) (P : List Step) : Type 0 where
  pub lasting : Lasting P
  pub in_time : EachStep (λ x. x.stop ≤ T) P
  pub no_clash : any_pair clashing P ≡ false
  pub pools : (pool t : ℕ) → pool < length J.pools → in_use J pool t P ≤ get_or J.pools pool 0
  pub stores : (store : ℕ) → store < length J.stores → used_up J store P ≤ store_cap J store
  pub needs_hold : NeedsHold J.start P
  pub goal_holds : Subset goal (held J.start P T)

-- x is a step of an action of the job, by its number
abbrev pub OfJob : Job → Step → Type 0
OfJob J x = x ≡ step_of J x.number x.start

-- a plan of the job's own steps that keeps the rules up to a horizon
pub record PlanOf (J : Job) (horizon goal : ℕ) (P : List Step) : Type 0 where
  pub keeps : Keeps J horizon goal P
  pub own : EachStep (OfJob J) P
  pub known : EachStep (λ x. x.number < length J.actions) P
