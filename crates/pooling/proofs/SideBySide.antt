-- Two plans side by side keep the rules of the pooled job.
-- Assumes nothing.
use Prim.Native.Nat.{ℕ, ◌+◌, ◌<◌, ◌≤◌}
use mathlib.Core.Path.{◌≡◌, refl, sym, ap, ap₂, ◌∙◌}
use mathlib.Core.Bool.{false}
use mathlib.Core.Logic.{⊎_elim}
use mathlib.Core.List.{List, map}
use native.Mathlib.Omega.{arith}
use lib.ListN.{length}
use Rattle.facts.specs.FactSet.{has, Subset, Within}
use Rattle.facts.proofs.SetLaws.{in_union_cases}
use Rattle.job.specs.Job.{Job}
use Rattle.job.specs.Passed.{Passed, PassedAction}
use Rattle.job.proofs.Passed.{passed}
use Rattle.timeline.specs.Step.{Step, any_pair}
use Rattle.timeline.specs.Timeline.{held, in_use, store_use, used_up}
use Rattle.timeline.specs.Accepted.{clashing}
use Rattle.timeline.proofs.Tests.{not_both, le_or_lt}
use Rattle.timeline.specs.Places.{EachStep}
use Rattle.timeline.proofs.Places.{each_map, total_append}
use Rattle.timeline.proofs.Clashes.{compatible_no_clash, not_clashing, no_clash_append}
use Rattle.timeline.proofs.Shares.{use_at}
use Rattle.timeline.specs.Keeps.{OfJob, Keeps}
use Rattle.pooling.specs.Pooled.{behind, pooled}
use Rattle.pooling.proofs.Behind.{behind_zero, behind_member}
use Rattle.pooling.proofs.Sums.{get_d_plus}
use Rattle.pooling.proofs.HeldInPool.{first_held, second_held}
use Rattle.pooling.proofs.MappedSteps.{total_of_map}
use Rattle.pooling.proofs.OwnSteps.{action_passes, action_pools, action_stores, every_pool, every_store}
use Rattle.pooling.proofs.PoolTests.{Alike, alike_of_test}
use Rattle.pooling.proofs.PooledJob.{pool_count, store_count, first_step, second_step, side_by_side, each_side_by_side}
use Rattle.pooling.proofs.PooledForm.{handover_of_first, handover_of_second}
use Rattle.pooling.proofs.PooledUses.{use_in_pool, store_amount_in_pool, cap_of_pooled}
use Rattle.pooling.proofs.PassingActions.{within_of}
use Rattle.pooling.proofs.PooledPasses.{Pooling}
use Rattle.pooling.proofs.ClashesInPool.{no_clash_in_pool, sides_apart}

module _ (A B : Job) (pooling : Pooling A B) (T : ℕ) (P Q : List Step)
    (own_p : EachStep (OfJob A) P) (known_p : EachStep (λ x. x.number < length A.actions) P)
    (own_q : EachStep (OfJob B) Q) (known_q : EachStep (λ x. x.number < length B.actions) Q)
    (keeps_p : Keeps A T A.goal P) (keeps_q : Keeps B T B.goal Q) where
  passed_a : Passed A
  passed_a = passed A pooling.valid_a

  passed_b : Passed B
  passed_b = passed B pooling.valid_b

  alike : Alike A B
  alike = alike_of_test A B pooling.not_unlike

  abbrev day : List Step
  day = side_by_side A B P Q

  passes_p : EachStep (λ x. PassedAction A.facts x.action) P
  passes_p x R i = action_passes A passed_a pooling.shape_a x (own_p x R i) (known_p x R i)

  pools_p : EachStep (λ x. length x.action.pools ≡ length A.pools) P
  pools_p x R i = action_pools A passed_a pooling.shape_a x (own_p x R i) (known_p x R i)

  pools_q : EachStep (λ x. length x.action.pools ≡ length B.pools) Q
  pools_q x R i = action_pools B passed_b pooling.shape_b x (own_q x R i) (known_q x R i)

  stores_p : EachStep (λ x. length x.action.stores ≡ length A.stores) P
  stores_p x R i = action_stores A passed_a pooling.shape_a x (own_p x R i) (known_p x R i)

  stores_q : EachStep (λ x. length x.action.stores ≡ length B.stores) Q
  stores_q x R i = action_stores B passed_b pooling.shape_b x (own_q x R i) (known_q x R i)

  held_first : (n : ℕ) → n < A.facts → (t : ℕ)
      → has (held (pooled A B).start day t) n ≡ has (held A.start P t) n
  held_first =
      first_held A.start B.start A.facts (length A.actions) (pool_count A B) (store_count A B) P Q
      (within_of passed_a.start) (λ x R i. within_of (passes_p x R i).deletes)
      (λ x R i. within_of (passes_p x R i).adds)

  held_second : (n t : ℕ) → has (held (pooled A B).start day t) (A.facts + n) ≡ has (held B.start Q t) n
  held_second =
      second_held A.start B.start A.facts (length A.actions) (pool_count A B) (store_count A B) P Q
      (within_of passed_a.start) (λ x R i. within_of (passes_p x R i).deletes)
      (λ x R i. within_of (passes_p x R i).adds)

  -- a set of facts that holds in its own job's day holds in the pooled day
  holds_first : (set t : ℕ) → Within A.facts set → Subset set (held A.start P t)
      → Subset set (held (pooled A B).start day t)
  holds_first set t within inside n h =
      ⊎_elim (λ l. not_both h (within n l)) (λ l. held_first n l t ∙ inside n h) (le_or_lt A.facts n)

  holds_second : (set t : ℕ) → Subset set (held B.start Q t)
      → Subset (behind A.facts set) (held (pooled A B).start day t)
  holds_second set t inside n h =
      let m = behind_member A.facts set n h in
      ap (has (held (pooled A B).start day t)) m.1 ∙ held_second m.0 t ∙ inside m.0 m.2

  needs_hold_lem : EachStep (λ x. Subset x.action.needs (held (pooled A B).start day x.start)) day
  needs_hold_lem =
      each_side_by_side A B (λ x. Subset x.action.needs (held (pooled A B).start day x.start)) P Q
      (λ x R i n h.
      holds_first x.action.needs x.start (within_of (passes_p x R i).needs) (keeps_p.needs_hold x R i) n
      (ap (λ (s : ℕ). has s n) (sym (behind_zero x.action.needs)) ∙ h))
      (λ x R i. holds_second x.action.needs x.start (keeps_q.needs_hold x R i))

  goal_holds_lem : Subset (pooled A B).goal (held (pooled A B).start day T)
  goal_holds_lem n h =
      ⊎_elim (λ g. holds_first A.goal T (within_of passed_a.goal) keeps_p.goal_holds n g)
      (λ g. holds_second B.goal T keeps_q.goal_holds n g)
      (in_union_cases A.goal (behind A.facts B.goal) n h)

  no_clash_lem : any_pair clashing day ≡ false
  no_clash_lem =
      no_clash_append (map (first_step A B) P) (map (second_step A B) Q)
      (no_clash_in_pool 0 0 (pool_count A B) (store_count A B) P keeps_p.no_clash)
      (no_clash_in_pool A.facts (length A.actions) (pool_count A B) (store_count A B) Q keeps_q.no_clash)
      (each_map (λ x. EachStep (λ y. clashing x y ≡ false) (map (second_step A B) Q)) (first_step A B) P
      (λ x R i.
      each_map (λ y. clashing (first_step A B x) y ≡ false) (second_step A B) Q
      (λ y S j.
      not_clashing (first_step A B x) (second_step A B y)
      (λ a b.
      let l = known_p x R i in
      let p = passes_p x R i in
      compatible_no_clash (first_step A B x) (second_step A B y)
      (record {
        different = λ e. omega arith;
        spares = record {
          needs = λ n d m.
              sides_apart A.facts x.action.deletes y.action.needs n (within_of p.deletes) d m;
          adds = λ n d m. sides_apart A.facts x.action.deletes y.action.adds n (within_of p.deletes) d m;
        };
        spared = record {
          needs = λ n d m. sides_apart A.facts x.action.needs y.action.deletes n (within_of p.needs) m d;
          adds = λ n d m. sides_apart A.facts x.action.adds y.action.deletes n (within_of p.adds) m d;
        };
      })))))

  in_use_of_both : (pool t : ℕ) → in_use (pooled A B) pool t day ≡ in_use A pool t P + in_use B pool t Q
  in_use_of_both pool t =
      total_append (use_at (pooled A B) pool t) (map (first_step A B) P) (map (second_step A B) Q)
      ∙ ap₂ ◌+◌
      (total_of_map (use_at (pooled A B) pool t) (use_at A pool t) (first_step A B) P
      (λ x R i.
      use_in_pool (pooled A B) A pool t 0 0 (pool_count A B) (store_count A B) x (pools_p x R i)
      (handover_of_first A B pooling.shape_a pooling.shape_b pool)))
      (total_of_map (use_at (pooled A B) pool t) (use_at B pool t) (second_step A B) Q
      (λ x R i.
      use_in_pool (pooled A B) B pool t A.facts (length A.actions) (pool_count A B) (store_count A B) x
      (pools_q x R i) (handover_of_second A B pooling.shape_a pooling.shape_b alike pool)))

  used_by_both : (store : ℕ) → used_up (pooled A B) store day ≡ used_up A store P + used_up B store Q
  used_by_both store =
      total_append (store_use (pooled A B) store) (map (first_step A B) P) (map (second_step A B) Q)
      ∙ ap₂ ◌+◌
      (total_of_map (store_use (pooled A B) store) (store_use A store) (first_step A B) P
      (λ x R i. store_amount_in_pool (pooled A B) A store 0 (pool_count A B) (store_count A B) x.action refl))
      (total_of_map (store_use (pooled A B) store) (store_use B store) (second_step A B) Q
      (λ x R i.
      store_amount_in_pool (pooled A B) B store A.facts (pool_count A B) (store_count A B) x.action
      alike.rule))

  pub side_by_side_keeps : Keeps (pooled A B) T (pooled A B).goal day
  side_by_side_keeps =
      record {
        lasting = each_side_by_side A B (λ x. x.start < x.stop) P Q keeps_p.lasting keeps_q.lasting;
        in_time = each_side_by_side A B (λ x. x.stop ≤ T) P Q keeps_p.in_time keeps_q.in_time;
        no_clash = no_clash_lem;
        pools = λ pool t l.
            let sum = in_use_of_both pool t in
            let cap = get_d_plus A.pools B.pools pool in
            let a = every_pool A P pools_p keeps_p.pools pool t in
            let b = every_pool B Q pools_q keeps_q.pools pool t in
            omega arith;
        stores = λ store l.
            let sum = used_by_both store in
            let cap = cap_of_pooled A B alike store in
            let a = every_store A P stores_p keeps_p.stores store in
            let b = every_store B Q stores_q keeps_q.stores store in
            omega arith;
        needs_hold = needs_hold_lem;
        goal_holds = goal_holds_lem;
      }
