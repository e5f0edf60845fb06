-- Test 26 of a job value, by its own arrays.
-- Assumes nothing.
use Prim.Native.Nat.{ℕ, ◌≤◌, ◌<◌}
use mathlib.Core.Path.{◌≡◌, sym, ap, ap₂, ◌∙◌}
use mathlib.Core.Bool.{Bool, ◌||◌}
use mathlib.Core.List.{List}
use lib.Dec.{ltb}
use native.Mathlib.Omega.{arith}
use lib.ListN.{length, get_or, replicate, get_or-replicate}
use Rattle.lists.specs.Lists.{firsts, any, any_below}
use Rattle.lists.proofs.Tabulate.{get_d_tabulate, length_tabulate}
use Rattle.lists.proofs.Below.{below_same, any_below_lem}
use Rattle.job.specs.declared.Action as act
use Rattle.job.specs.declared.Job as held
use Rattle.job.specs.Job.{Action, Job, action_in, job_in, Fits}
use Rattle.job.specs.Resources.{store_amount, store_cap, charged_in, allowed_in}
use Rattle.job.specs.Valid.{over, uses_beyond}
use Rattle.job.proofs.ResourceLaws.{charged_is, allowed_is}

-- one of the first n amounts is over its own limit
abbrev pub any_above : ℕ → List ℕ → List ℕ → Bool
any_above n limits amounts = any_below n (λ k. over (get_or limits k 0) (get_or amounts k 0))

-- an amount of the first four
widened_at : (xs : List ℕ) (k : ℕ) → k < 4 → get_or (firsts 4 0 xs) k 0 ≡ get_or xs k 0
widened_at xs k l = get_d_tabulate 4 (λ i. get_or xs i 0) k 0 l

-- one limit for all
pub above_one_limit : (limit n : ℕ) (amounts : List ℕ) → n ≤ 4
    → any_above n (replicate 4 limit) (firsts 4 0 amounts) ≡ any (over limit) (firsts n 0 amounts)
above_one_limit limit n amounts l =
    below_same n _ (λ k. over limit (get_or amounts k 0))
    (λ k h. ap₂ ltb (get_or-replicate 4 k limit 0 (omega arith)) (widened_at amounts k (omega arith)))
    ∙ sym (any_below_lem (over limit) n (λ k. get_or amounts k 0))

module _ (job : held.Job) (a : act.Action) (fits : Fits job.counts) where
  abbrev J : Job
  J = job_in job

  abbrev x : Action
  x = action_in job.counts a

  same_pools : any_above job.counts.pools (firsts 4 0 job.pools) (firsts 4 0 a.pools)
      ≡ any_above (length J.pools) J.pools x.pools
  same_pools =
      let n = job.counts.pools in
      below_same n _ _
      (λ k l.
      ap₂ ltb (widened_at job.pools k (omega arith) ∙ sym (get_d_tabulate n (λ i. get_or job.pools i 0) k 0 l))
      (widened_at a.pools k (omega arith) ∙ sym (get_d_tabulate n (λ i. get_or a.pools i 0) k 0 l)))
      ∙ ap (λ (m : ℕ). any_above m J.pools x.pools) (sym (length_tabulate n (λ k. get_or job.pools k 0)))

  -- an action's charge is over what is allowed
  abbrev beyond_store : ℕ → Bool
  beyond_store k = over (store_cap J k) (store_amount J k x)

  same_stores : any_above job.counts.stores (firsts 4 0 (allowed_in job)) (charged_in job a)
      ≡ any_below (length J.stores) beyond_store
  same_stores =
      let n = job.counts.stores in
      below_same n _ beyond_store
      (λ k l.
      ap₂ ltb (widened_at (allowed_in job) k (omega arith) ∙ allowed_is job k l (omega arith))
      (charged_is job a k l (omega arith)))
      ∙ ap (λ (m : ℕ). any_below m beyond_store) (sym (length_tabulate n (λ k. get_or job.stores k 0)))

  pub beyond_is : (any_above job.counts.pools (firsts 4 0 job.pools) (firsts 4 0 a.pools)
      || any_above job.counts.stores (firsts 4 0 (allowed_in job)) (charged_in job a))
      ≡ uses_beyond J x
  unfolding uses_beyond
  beyond_is = ap₂ ◌||◌ same_pools same_stores
