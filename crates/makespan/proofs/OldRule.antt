-- "A season's old jobs must give their old ends": under the old head tests 18 and 26 are document 01's, and no reserve
-- changes which plans are accepted, nor the makespan.
-- Assumes nothing.
use Prim.Native.Nat.{ℕ, zero, suc, ◌-◌}
use mathlib.Core.Path.{◌≡◌, ap, ap₂, fun_ext}
use mathlib.Core.Bool.{Bool, true, false, ◌||◌}
use mathlib.Core.List.{List, [], ◌∷◌, ◌++◌}
use lib.Dec.{leb}
use lib.ListN.{length, get_or}
use Rattle.lists.specs.Lists.{any_below}
use Rattle.job.specs.declared.StoreRule.TheVariants.{PerStep}
use Rattle.job.specs.Job.{Action, Job}
use Rattle.job.specs.Refusal.{Row, first}
use Rattle.job.specs.Resources.{handover, store_amount, store_cap}
use Rattle.job.specs.Resumed.{without_reserve}
use Rattle.job.specs.Valid.{over, uses_beyond}
use Rattle.timeline.specs.Step.{Step, total, steps_in}
use Rattle.timeline.specs.Timeline.{end, free}
use Rattle.timeline.specs.Accepted.{exceeds_store, step_rows, plan_rows}
use Rattle.makespan.specs.Makespan.{is_pass, passes, some_next, completable, solvable, least_below, makespan_from}

module _ (J : Job) (old : J.rule ≡ PerStep) where
  -- 18: "over the plan the uses add up to no more than each store has"
  pub old_18 : (P : List Step) (store : ℕ)
      → exceeds_store J P store ≡ over (get_or J.stores store 0) (total (λ x. get_or x.action.stores store 0) P)
  unfolding store_amount store_cap
  old_18 P store = rw old

  -- 26: "an action uses more of a pool or store than is available"
  pub old_26 : (a : Action)
      → uses_beyond J a
      ≡ (any_below (length J.pools) (λ pool. over (get_or J.pools pool 0) (get_or a.pools pool 0))
      || any_below (length J.stores) (λ store. over (get_or J.stores store 0) (get_or a.stores store 0)))
  unfolding uses_beyond store_amount store_cap
  old_26 a = rw old

  -- ---- a reserve changes nothing: every test of a plan is that of the job without it
  same_rows : (goal : ℕ) (P : List Step) → step_rows J goal P ≡ step_rows (without_reserve J) goal P
  unfolding step_rows store_amount store_cap free handover
  same_rows goal P = rw old

  pub old_head_same_tests : (goal : ℕ) (bytes : List ℕ) → plan_rows J goal bytes ≡ plan_rows (without_reserve J) goal bytes
  unfolding plan_rows step_rows steps_in store_amount store_cap free handover
  old_head_same_tests goal bytes = rw old

  module _ (goal minute : ℕ) where
    same_passes : (P : List Step) → passes J goal P ≡ passes (without_reserve J) goal P
    same_passes P = ap (λ (rows : List Row). is_pass (first rows)) (same_rows goal P)

    same_completable : (T n : ℕ) (P : List Step)
        → completable J goal minute T n P ≡ completable (without_reserve J) goal minute T n P
    same_completable T zero P = same_passes P
    same_completable T (suc n) P =
        ap₂ (λ (b : Bool) (test : Step → Bool). elim b [ true ↦ true | false ↦ some_next J minute T P test ])
        (same_passes P) (fun_ext (λ x. same_completable T n (P ++ (x ∷ []))))

    same_solvable : (K : List Step) (T : ℕ) → solvable J goal minute K T ≡ solvable (without_reserve J) goal minute K T
    same_solvable K T =
        ap (λ (b : Bool). elim (leb (end K) T) [ true ↦ b | false ↦ false ])
        (same_completable T (32 - length K) K)

    pub old_head_same_makespan : (K : List Step)
        → makespan_from J goal minute K ≡ makespan_from (without_reserve J) goal minute K
    unfolding makespan_from
    old_head_same_makespan K = ap (least_below (suc J.deadline)) (fun_ext (same_solvable K))
