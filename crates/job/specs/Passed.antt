-- What a job that passes tests 3 to 11, 27, 29 and 31 is like.
-- Inner functions and laws alone cite these. Assumes nothing.
use Rattle.std.specs.Prelude.{ℕ, ◌^◌, ◌≤◌, ◌<◌, ◌≡◌, false, List, length}
use Rattle.lists.specs.Lists.{Each}
use Rattle.facts.specs.FactSet.{meets, foreign}
use Rattle.job.specs.Job.{Action, Job}
use Rattle.job.specs.Lengths.{longest_of, shortest_of}

-- an amount of a pool or a store, available or used
abbrev pub Amounts : List ℕ → Type 0
Amounts = Each (λ x. x ≤ 1000000)

-- a set with no bit at or above the number of facts, so a word
pub record WithinFacts (facts set : ℕ) : Type 0 where
  pub within : foreign facts set ≡ false
  pub word : set < 2 ^ 64

-- an action that passes tests 8 to 11 of a job with so many facts
pub record PassedAction (facts : ℕ) (a : Action) : Type 0 where
  pub duration : 0 < a.duration
  pub needs : WithinFacts facts a.needs
  pub adds : WithinFacts facts a.adds
  pub deletes : WithinFacts facts a.deletes
  pub effects : meets a.adds a.deletes ≡ false
  pub pools : Amounts a.pools
  pub stores : Amounts a.stores

-- a job that passes tests 3 to 11, 27, 29 and 31
pub record Passed (J : Job) : Type 0 where
  pub few_pools : length J.pools ≤ 4
  pub few_stores : length J.stores ≤ 4
  pub few_actions : length J.actions ≤ 64
  pub facts : J.facts ≤ 64
  pub deadline : J.deadline ≤ 1440
  pub reserve : J.reserve ≤ 50
  pub start : WithinFacts J.facts J.start
  pub goal : WithinFacts J.facts J.goal
  pub pools : Amounts J.pools
  pub stores : Amounts J.stores
  pub handovers : Each (λ x. x ≤ 30) J.handovers
  pub actions : Each (PassedAction J.facts) J.actions
  pub ranges : (i : ℕ) → i < length J.actions → (0 < shortest_of J i) × (shortest_of J i ≤ longest_of J i)
