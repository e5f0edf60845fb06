-- Steps of a job that passes: what their actions are like, and that they keep within every pool and store, also those
-- that the job lacks, of which they use nothing.
-- Assumes nothing.
use Prim.Native.Nat.{ℕ, ◌<◌, ◌≤◌}
use mathlib.Core.Path.{◌≡◌, ap, ◌∙◌}
use mathlib.Core.Logic.{⊎_elim}
use mathlib.Core.List.{List}
use native.Mathlib.Omega.{arith}
use lib.ListN.{length, get_or, get_or-eq_default}
use Rattle.lists.proofs.Tabulate.{each_at}
use Rattle.job.specs.Job.{Action, Job, no_action}
use Rattle.job.specs.Passed.{Passed, PassedAction}
use Rattle.job.proofs.Values.{Shape}
use Rattle.timeline.specs.Step.{Step}
use Rattle.timeline.specs.Timeline.{in_use, store_use, used_up}
use Rattle.job.specs.Resources.{store_cap}
use Rattle.timeline.proofs.Tests.{le_or_lt}
use Rattle.timeline.specs.Places.{EachStep}
use Rattle.timeline.proofs.Places.{total_zero}
use Rattle.timeline.proofs.Shares.{use_at, use_at_most}
use Rattle.timeline.specs.Keeps.{OfJob}
use Rattle.pooling.proofs.PooledUses.{no_store_amount}

-- ---- the action of a step of a job that passes
module _ (J : Job) (passed : Passed J) (shape : Shape J) (x : Step) (own : OfJob J x)
    (known : x.number < length J.actions) where
  mine : x.action ≡ get_or J.actions x.number no_action
  mine = ap (λ (y : Step). y.action) own

  pub action_passes : PassedAction J.facts x.action
  action_passes = rw mine (each_at (PassedAction J.facts) J.actions no_action passed.actions x.number known)

  pub action_pools : length x.action.pools ≡ length J.pools
  action_pools =
      ap (λ (a : Action). length a.pools) mine
      ∙ (each_at _ J.actions no_action shape.actions x.number known).pools

  pub action_stores : length x.action.stores ≡ length J.stores
  action_stores =
      ap (λ (a : Action). length a.stores) mine
      ∙ (each_at _ J.actions no_action shape.actions x.number known).stores

-- ---- a plan keeps within every pool: of one that the job lacks nothing is used
module _ (J : Job) (P : List Step) (exact : EachStep (λ x. length x.action.pools ≡ length J.pools) P)
    (keeps : (pool t : ℕ) → pool < length J.pools → in_use J pool t P ≤ get_or J.pools pool 0) where
  pub every_pool : (pool t : ℕ) → in_use J pool t P ≤ get_or J.pools pool 0
  every_pool pool t =
      ⊎_elim
      (λ lacks.
      let none = total_zero (use_at J pool t) P
      (λ x Q i.
      let n = exact x Q i in
      let zero = get_or-eq_default x.action.pools 0 {n = pool} (omega arith) in
      let most = use_at_most J pool t x in
      omega arith) in
      omega arith)
      (λ has. keeps pool t has)
      (le_or_lt (length J.pools) pool)

-- and within every store
module _ (J : Job) (P : List Step) (exact : EachStep (λ x. length x.action.stores ≡ length J.stores) P)
    (keeps : (store : ℕ) → store < length J.stores → used_up J store P ≤ store_cap J store) where
  pub every_store : (store : ℕ) → used_up J store P ≤ store_cap J store
  every_store store =
      ⊎_elim
      (λ lacks.
      let none = total_zero (store_use J store) P
      (λ x Q i. let n = exact x Q i in no_store_amount J store x.action (omega arith)) in
      omega arith)
      (λ has. keeps store has)
      (le_or_lt (length J.stores) store)
