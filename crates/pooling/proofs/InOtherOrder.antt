-- The actions, sets and steps of the pooled job in the other order.
-- Assumes nothing.
use Prim.Native.Nat.{ℕ, ◌+◌, ◌-◌, ◌<◌, ◌≤◌}
use mathlib.Core.Path.{◌≡◌, refl, sym, ap, ap₂, ◌∙◌}
use mathlib.Core.Bool.{Bool, cond, ◌||◌, or_comm}
use mathlib.Core.Logic.{⊎_elim}
use mathlib.Core.List.{List}
use native.Mathlib.Omega.{arith}
use lib.ListN.{length, get_or}
use Rattle.lists.specs.Lists.{filled}
use Rattle.lists.proofs.Tabulate.{each_at}
use Rattle.facts.specs.FactSet.{has, union, Within}
use Rattle.facts.proofs.Membership.{has_union}
use Rattle.job.specs.Job.{Action, Job, no_action}
use Rattle.job.proofs.Passed.{passed}
use Rattle.job.specs.Passed.{Passed, PassedAction}
use Rattle.timeline.specs.Step.{Step, step_of}
use Rattle.timeline.specs.Timeline.{store_use}
use Rattle.timeline.proofs.Tests.{le_or_lt}
use Rattle.timeline.proofs.Shares.{use_at}
use Rattle.job.specs.Resources.{handover}
use Rattle.timeline.specs.Keeps.{OfJob}
use Rattle.pooling.specs.Pooled.{behind, pooled}
use Rattle.pooling.proofs.Behind.{behind_zero}
use Rattle.pooling.proofs.Sums.{plus_comm, length_plus}
use Rattle.pooling.proofs.PoolTests.{alike_of_test}
use Rattle.pooling.proofs.Renamed.{Renames}
use Rattle.pooling.proofs.PooledJob.{pool_count, store_count, first_action, second_action, count_of_actions}
use Rattle.pooling.proofs.PooledJob.{action_of_first, action_of_second}
use Rattle.pooling.proofs.PooledForm.{handover_of_first, handover_of_second}
use Rattle.pooling.proofs.PooledUses.{same_share, same_store_amount}
use Rattle.pooling.proofs.PassingActions.{within_of}
use Rattle.pooling.proofs.PooledPasses.{Pooling, pooling_other_order}
use Rattle.pooling.proofs.Exchanged.{exchanged, first_exchanged, second_exchanged, renumber, renumber_first}
use Rattle.pooling.proofs.Exchanged.{renumber_second}

-- ---- an action in the other order: the same, its facts renamed
record SameAction (of : ℕ → ℕ) (x y : Action) : Type 0 where
  duration : y.duration ≡ x.duration
  needs : (n : ℕ) → has y.needs n ≡ has x.needs (of n)
  adds : (n : ℕ) → has y.adds n ≡ has x.adds (of n)
  deletes : (n : ℕ) → has y.deletes n ≡ has x.deletes (of n)
  pools : y.pools ≡ x.pools
  stores : y.stores ≡ x.stores

-- handovers are the same in both orders
handover_other_order : (A B : Job) → Pooling A B → (pool : ℕ) → pool < pool_count A B
    → handover (pooled A B) pool ≡ handover (pooled B A) pool
handover_other_order A B pooling pool l =
    let n = length_plus A.pools B.pools in
    let alike = alike_of_test A B pooling.not_unlike in
    let back = alike_of_test B A (pooling_other_order A B pooling).not_unlike in
    ⊎_elim
    (λ (lacks : length A.pools ≤ pool).
    let has : pool < length B.pools = omega arith in
    handover_of_second A B pooling.shape_a pooling.shape_b alike pool has
    ∙ sym (handover_of_first B A pooling.shape_b pooling.shape_a pool has))
    (λ (has : pool < length A.pools).
    handover_of_first A B pooling.shape_a pooling.shape_b pool has
    ∙ sym (handover_of_second B A pooling.shape_b pooling.shape_a back pool has))
    (le_or_lt (length A.pools) pool)

module _ (A B : Job) (pooling : Pooling A B) where
  passed_a : Passed A
  passed_a = passed A pooling.valid_a

  passed_b : Passed B
  passed_b = passed B pooling.valid_b

  abbrev of : ℕ → ℕ
  of = exchanged A.facts B.facts

  same_pools : (a : Action) → filled (pool_count B A) 0 a.pools ≡ filled (pool_count A B) 0 a.pools
  same_pools a = ap (λ (xs : List ℕ). filled (length xs) 0 a.pools) (plus_comm B.pools A.pools)

  same_stores : (a : Action) → filled (store_count B A) 0 a.stores ≡ filled (store_count A B) 0 a.stores
  same_stores a = ap (λ (xs : List ℕ). filled (length xs) 0 a.stores) (plus_comm B.stores A.stores)

  first_action_lem : (a : Action) → PassedAction A.facts a
      → SameAction of (first_action A B a) (second_action B A a)
  first_action_lem a h =
      record {
        duration = refl;
        needs = first_exchanged A.facts B.facts a.needs (within_of h.needs);
        adds = first_exchanged A.facts B.facts a.adds (within_of h.adds);
        deletes = first_exchanged A.facts B.facts a.deletes (within_of h.deletes);
        pools = same_pools a;
        stores = same_stores a;
      }

  second_action_lem : (a : Action) → PassedAction B.facts a
      → SameAction of (second_action A B a) (first_action B A a)
  second_action_lem a h =
      record {
        duration = refl;
        needs = second_exchanged A.facts B.facts a.needs (within_of h.needs);
        adds = second_exchanged A.facts B.facts a.adds (within_of h.adds);
        deletes = second_exchanged A.facts B.facts a.deletes (within_of h.deletes);
        pools = same_pools a;
        stores = same_stores a;
      }

  abbrev to : ℕ → ℕ
  to = renumber (length A.actions) (length B.actions)

  same_action : (i : ℕ) → i < length A.actions + length B.actions
      → SameAction of (get_or (pooled A B).actions i no_action) (get_or (pooled B A).actions (to i) no_action)
  same_action i l =
      ⊎_elim
      (λ p.
      let m : i - length A.actions < length B.actions = omega arith in
      let e : i ≡ length A.actions + (i - length A.actions) = omega arith in
      let x = ap (λ (k : ℕ). get_or (pooled A B).actions k no_action) e
      ∙ action_of_second A B (i - length A.actions) m in
      let y = ap (λ (k : ℕ). get_or (pooled B A).actions k no_action) (renumber_second _ (length B.actions) i p)
      ∙ action_of_first B A (i - length A.actions) m in
      rw (x, y)
      (second_action_lem (get_or B.actions (i - length A.actions) no_action)
      (each_at (PassedAction B.facts) B.actions no_action passed_b.actions (i - length A.actions) m)))
      (λ p.
      let x = action_of_first A B i p in
      let y = ap (λ (k : ℕ). get_or (pooled B A).actions k no_action) (renumber_first _ (length B.actions) i p)
      ∙ action_of_second B A i p in
      rw (x, y)
      (first_action_lem (get_or A.actions i no_action)
      (each_at (PassedAction A.facts) A.actions no_action passed_a.actions i p)))
      (le_or_lt (length A.actions) i)

  -- ---- sets of both jobs
  pub united_exchanged : (u v : ℕ) → Within A.facts u → Within B.facts v → (n : ℕ)
      → has (union v (behind B.facts u)) n ≡ has (union u (behind A.facts v)) (of n)
  united_exchanged u v p q n =
      has_union v (behind B.facts u) n
      ∙ or_comm (has v n) (has (behind B.facts u) n)
      ∙ ap₂ ◌||◌
      (first_exchanged A.facts B.facts u p n ∙ ap (λ (s : ℕ). has s (of n)) (behind_zero u))
      (ap (λ (s : ℕ). has s n) (sym (behind_zero v)) ∙ second_exchanged A.facts B.facts v q n)
      ∙ sym (has_union u (behind A.facts v) (of n))

  -- ---- steps
  abbrev pub in_other : Step → Step
  in_other x = step_of (pooled B A) (to x.number) x.start

  module _ (x : Step) (own : OfJob (pooled A B) x)
      (known : x.number < length (pooled A B).actions) where
    pub in_both : x.number < length A.actions + length B.actions
    in_both = let n = count_of_actions A B in omega arith

    action_in_other : SameAction of x.action (in_other x).action
    action_in_other =
        let mine : x.action ≡ get_or (pooled A B).actions x.number no_action = ap (λ (y : Step). y.action) own in
        rw mine (same_action x.number in_both)

    stop_in_other : (in_other x).stop ≡ x.stop
    stop_in_other =
        let stop : x.stop ≡ x.start + (get_or (pooled A B).actions x.number no_action).duration
        = ap (λ (y : Step). y.stop) own in
        let same : (in_other x).action.duration ≡ (get_or (pooled A B).actions x.number no_action).duration
        = (same_action x.number in_both).duration in
        omega arith

    pub renames_in_other : Renames of x (in_other x)
    renames_in_other =
        record {
          start = refl;
          stop = stop_in_other;
          needs = action_in_other.needs;
          adds = action_in_other.adds;
          deletes = action_in_other.deletes;
        }

    pub use_in_other : (pool t : ℕ) → pool < pool_count A B
        → use_at (pooled B A) pool t (in_other x) ≡ use_at (pooled A B) pool t x
    use_in_other pool t l =
        ap₂ (λ (b : Bool) (uses : List ℕ). cond b (get_or uses pool 0) 0)
        (same_share (pooled B A) (pooled A B) pool t x (in_other x) refl stop_in_other
        (sym (handover_other_order A B pooling pool l)))
        action_in_other.pools

    pub store_use_in_other : (store : ℕ) → store_use (pooled B A) store (in_other x) ≡ store_use (pooled A B) store x
    store_use_in_other store =
        same_store_amount (pooled B A) (pooled A B) store (in_other x).action x.action
        (sym (alike_of_test A B pooling.not_unlike).rule) action_in_other.duration
        (ap (λ (uses : List ℕ). get_or uses store 0) action_in_other.stores)
