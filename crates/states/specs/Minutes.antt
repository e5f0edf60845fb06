-- What the chosen steps mean for one minute.
-- Assumes nothing.
use Rattle.std.specs.Prelude.{ℕ, ◌≡◌, Bool, cond, ◌&&◌, List, ◌∷◌, leb, ltb}
use Rattle.facts.specs.FactSet.{single}
use Rattle.job.specs.Job.{Job}
use Rattle.timeline.specs.Step.{Step, step_of, union_of}
use Rattle.timeline.specs.Timeline.{added_at}
use Rattle.regression.specs.Wanted.{if_starts, needed_at}
use Rattle.regression.specs.Tests.{running_needs}
use Rattle.tables.specs.Tables.{DescribesAction, chosen, DescribesEach}
use Rattle.tables.specs.declared.Steps.{Steps}
use Rattle.states.specs.declared.minute.Minute.{Minute}

-- the step runs in the minute before t
abbrev pub runs_into : ℕ → Step → Bool
runs_into t x = ltb x.start t && leb t x.stop

-- the value holds the sets of minute t for the steps L
pub record MinuteOf (t : ℕ) (L : List Step) (m : Minute) : Type 0 where
  pub running : m.running ≡ union_of (λ x. cond (runs_into t x) (single x.number) 0) L
  pub held : m.held ≡ union_of (λ x. cond (runs_into t x) x.action.needs 0) L
  pub starting : m.starting ≡ union_of (λ x. if_starts t (single x.number) x) L
  pub needed : m.needed ≡ needed_at t L
  pub across : m.across ≡ running_needs t L
  pub added : m.added ≡ added_at t L

-- the step has these numbers and sets
pub record Is (x : Step) (number start stop needs adds : ℕ) : Type 0 where
  pub same_number : x.number ≡ number
  pub same_start : x.start ≡ start
  pub same_stop : x.stop ≡ stop
  pub same_needs : x.action.needs ≡ needs
  pub same_adds : x.action.adds ≡ adds

-- one step more
abbrev pub JoinsStep : List ℕ → List ℕ → ℕ → ℕ → ℕ → Minute → Minute → Type 0
JoinsStep sets numbers t i start m r =
    (J : Job) → DescribesAction J sets numbers i → (L : List Step) → MinuteOf t L m
    → MinuteOf t (step_of J i start ∷ L) r

-- all chosen steps
abbrev pub LooksAt : List ℕ → List ℕ → ℕ → Steps → ℕ → Minute → Type 0
LooksAt sets numbers actions steps t r =
    (J : Job) → DescribesEach J sets numbers actions → MinuteOf t (chosen J steps) r
