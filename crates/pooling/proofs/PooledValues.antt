-- The pooled job in a value, and tests 32 and 33 by the values' own arrays.
-- Assumes nothing.
use Prim.Native.Nat.{ℕ, ◌+◌, ◌<◌, ◌≤◌, max, min}
use mathlib.Core.Path.{◌≡◌, sym, ap, ap₂, ◌∙◌}
use mathlib.Core.Bool.{Bool, false, cond, not, ◌||◌, or_assoc}
use mathlib.Core.Logic.{⊎_elim}
use mathlib.Core.List.{List}
use native.Mathlib.Omega.{arith}
use lib.Dec.{eqb, ltb}
use lib.ListN.{length, get_or, get_or-eq_default}
use borrow.Author.Tests.{lt-ltb, le-ltb}
use Rattle.lists.specs.Lists.{tabulate, firsts, filled, any, any_below}
use Rattle.lists.proofs.Any.{any_append}
use Rattle.lists.proofs.Below.{below_same}
use Rattle.lists.proofs.Tabulate.{length_tabulate, tabulate_same, firsts_filled}
use Rattle.job.specs.declared.Action as act
use Rattle.job.specs.declared.Counts.{Counts}
use Rattle.job.specs.declared.Form.{Form}
use Rattle.job.specs.declared.Job as held
use Rattle.job.specs.Job.{Job, handover_count, action_at, job_in, Fits, job_value}
use Rattle.job.specs.Resources.{handover, HandoversOf}
use Rattle.job.specs.Valid.{over}
use Rattle.job.proofs.Values.{Shape, few_handovers_lem, job_in_shape}
use Rattle.timeline.proofs.Tests.{le_or_lt}
use Rattle.pooling.specs.Pooled.{plus, more_entries, pooled_handover, pooled, too_large, handovers_differ}
use Rattle.pooling.specs.Inner.{Widens, HasActions, BothPass}
use Rattle.pooling.proofs.Sums.{length_plus}
use Rattle.pooling.proofs.Arrays.{filled_by_place}
use Rattle.pooling.proofs.PoolTests.{few_actions_lem}
use Rattle.pooling.proofs.PooledJob.{pool_count, store_count, count_of_actions}
use Rattle.pooling.proofs.PooledForm.{handover_of_pooled, handover_of_first}

-- ---- test 32
pub any_of_sums : (xs ys : List ℕ) (n m : ℕ) → length xs ≡ n → length ys ≡ m
    → any (over 1000000) (firsts (max n m) 0 (filled 4 0 (plus xs ys))) ≡ any (over 1000000) (plus xs ys)
any_of_sums xs ys n m e f =
    let p = length_plus xs ys in
    let count : max n m ≡ length (plus xs ys) = omega arith in
    ap (λ (k : ℕ). any (over 1000000) (firsts k 0 (filled 4 0 (plus xs ys)))) count
    ∙ ap (any (over 1000000)) (firsts_filled 4 0 0 (plus xs ys))

pub too_large_parts : (A B : Job) (n m : ℕ) (p s : Bool) → length A.actions ≡ n → length B.actions ≡ m
    → p ≡ any (over 1000000) (plus A.pools B.pools) → s ≡ any (over 1000000) (plus A.stores B.stores)
    → ((((over 64 (A.facts + B.facts)) || (over 64 (n + m))) || p) || s) ≡ too_large A B
too_large_parts A B n m p s e f g h =
    let counts : Bool = over 64 (A.facts + B.facts) || over 64 (n + m) in
    or_assoc counts p s
    ∙ ap₂ ◌||◌
    (ap (λ (k : ℕ). over 64 (A.facts + B.facts) || over 64 k) (ap₂ ◌+◌ (sym e) (sym f)))
    (ap₂ ◌||◌ g h ∙ sym (any_append (over 1000000) (plus A.pools B.pools) (plus A.stores B.stores)))

-- ---- handovers
pub handovers_differ_by : (A B : Job) (xs ys : List ℕ) (n : ℕ) → HandoversOf A xs → HandoversOf B ys
    → n ≡ min (length A.pools) (length B.pools)
    → any_below n (λ k. not (eqb (get_or xs k 0) (get_or ys k 0))) ≡ handovers_differ A B
handovers_differ_by A B xs ys n mine other e =
    below_same n _ (λ k. not (eqb (handover A k) (handover B k)))
    (λ k l. ap not (ap₂ eqb (mine k (omega arith)) (other k (omega arith))))
    ∙ ap (λ (k : ℕ). any_below k (λ pool. not (eqb (handover A pool) (handover B pool)))) e

-- the handover of the first up to n, of the second up to m, and 0 behind them
abbrev pub handover_by : List ℕ → ℕ → List ℕ → ℕ → ℕ → ℕ
handover_by xs n ys m k = cond (ltb k n) (get_or xs k 0) (cond (ltb k m) (get_or ys k 0) 0)

module _ (A B : Job) (shape_a : Shape A) (shape_b : Shape B) (xs ys : List ℕ) (mine : HandoversOf A xs)
    (other : HandoversOf B ys) where
  handover_is : (k : ℕ) → handover_by xs (length A.pools) ys (length B.pools) k ≡ get_or (pooled A B).handovers k 0
  unfolding handover
  handover_is k =
      let n = length_plus A.pools B.pools in
      ⊎_elim
      (λ (lacks : length A.pools ≤ k).
      ap (λ (c : Bool). cond c (get_or xs k 0) (cond (ltb k (length B.pools)) (get_or ys k 0) 0))
      (le-ltb k (length A.pools) lacks)
      ∙ ⊎_elim
      (λ (neither : length B.pools ≤ k).
      let few = few_handovers_lem (more_entries A.form B.form) (pool_count A B) in
      let count = length_tabulate (handover_count (more_entries A.form B.form) (pool_count A B))
      (pooled_handover A B) in
      ap (λ (c : Bool). cond c (get_or ys k 0) 0) (le-ltb k (length B.pools) neither)
      ∙ sym (get_or-eq_default (pooled A B).handovers 0 {n = k} (omega arith)))
      (λ (has : k < length B.pools).
      ap (λ (c : Bool). cond c (get_or ys k 0) 0) (lt-ltb k (length B.pools) has) ∙ other k has
      ∙ ap (λ (c : Bool). cond c (handover A k) (handover B k)) (sym (le-ltb k (length A.pools) lacks))
      ∙ sym (handover_of_pooled A B shape_a shape_b k (omega arith)))
      (le_or_lt (length B.pools) k))
      (λ (has : k < length A.pools).
      ap (λ (c : Bool). cond c (get_or xs k 0) (cond (ltb k (length B.pools)) (get_or ys k 0) 0))
      (lt-ltb k (length A.pools) has)
      ∙ mine k has ∙ sym (handover_of_first A B shape_a shape_b k has))
      (le_or_lt (length A.pools) k)

  handovers_by_place : length A.pools ≤ 4 → length B.pools ≤ 4
      → tabulate 4 (handover_by xs (length A.pools) ys (length B.pools)) ≡ filled 4 0 (pooled A B).handovers
  handovers_by_place l m =
      let n = length_plus A.pools B.pools in
      let few = few_handovers_lem (more_entries A.form B.form) (pool_count A B) in
      let count = length_tabulate (handover_count (more_entries A.form B.form) (pool_count A B))
      (pooled_handover A B) in
      tabulate_same 4 _ _ (λ k h. handover_is k) ∙ filled_by_place 4 (pooled A B).handovers (omega arith)

pub handovers_by_counts : (first second : held.Job) (xs ys : List ℕ) → HandoversOf (job_in first) xs
    → HandoversOf (job_in second) ys → Fits first.counts → Fits second.counts
    → tabulate 4 (handover_by xs first.counts.pools ys second.counts.pools)
    ≡ filled 4 0 (pooled (job_in first) (job_in second)).handovers
handovers_by_counts first second xs ys mine other l m =
    let n = length_tabulate first.counts.pools (λ k. get_or first.pools k 0) in
    let k = length_tabulate second.counts.pools (λ i. get_or second.pools i 0) in
    ap₂ (λ (a b : ℕ). tabulate 4 (handover_by xs a ys b)) (sym n) (sym k)
    ∙ handovers_by_place (job_in first) (job_in second) (job_in_shape first) (job_in_shape second) xs ys mine other
    (omega arith) (omega arith)

-- ---- counts of two values
module _ (first second : held.Job) where
  pub few_actions_of_values : too_large (job_in first) (job_in second) ≡ false
      → first.counts.actions + second.counts.actions ≤ 64
  few_actions_of_values small =
      let n = length_tabulate first.counts.actions (action_at first) in
      let m = length_tabulate second.counts.actions (action_at second) in
      let few = few_actions_lem (job_in first) (job_in second) small in
      omega arith

  pool_count_lem : pool_count (job_in first) (job_in second) ≡ max first.counts.pools second.counts.pools
  pool_count_lem =
      let n = length_tabulate first.counts.pools (λ k. get_or first.pools k 0) in
      let m = length_tabulate second.counts.pools (λ k. get_or second.pools k 0) in
      length_plus (job_in first).pools (job_in second).pools ∙ ap₂ max n m

  store_count_lem : store_count (job_in first) (job_in second) ≡ max first.counts.stores second.counts.stores
  store_count_lem =
      let n = length_tabulate first.counts.stores (λ k. get_or first.stores k 0) in
      let m = length_tabulate second.counts.stores (λ k. get_or second.stores k 0) in
      length_plus (job_in first).stores (job_in second).stores ∙ ap₂ max n m

  -- the pooled job has no fewer pools and stores than either
  pub both_widen : BothPass first second
      → Widens first.counts (pool_count (job_in first) (job_in second)) (store_count (job_in first) (job_in second))
      × Widens second.counts (pool_count (job_in first) (job_in second)) (store_count (job_in first) (job_in second))
  both_widen both =
      let p = pool_count_lem in
      let s = store_count_lem in
      let a = both.fits_first in
      let b = both.fits_second in (
        record { all_pools = omega arith; few_pools = omega arith; all_stores = omega arith; few_stores = omega arith },
        record { all_pools = omega arith; few_pools = omega arith; all_stores = omega arith; few_stores = omega arith },
      )

-- ---- a value by its parts
pub counts_of_pooled : (first second : held.Job) (pools stores : ℕ)
    → pools ≡ max first.counts.pools second.counts.pools
    → stores ≡ max first.counts.stores second.counts.stores
    → ◌≡◌ {A = Counts}
    (record { pools = pools; stores = stores; actions = first.counts.actions + second.counts.actions })
    (job_value (pooled (job_in first) (job_in second))).counts
counts_of_pooled first second pools stores p s =
    let n = length_tabulate first.counts.actions (action_at first) in
    let m = length_tabulate second.counts.actions (action_at second) in
    let actions : first.counts.actions + second.counts.actions
    ≡ length (pooled (job_in first) (job_in second)).actions
    = ap₂ ◌+◌ (sym n) (sym m) ∙ sym (count_of_actions (job_in first) (job_in second)) in
    let a = p ∙ sym (pool_count_lem first second) in
    let b = s ∙ sym (store_count_lem first second) in
    λ i. record { pools = a i; stores = b i; actions = actions i }

pub value_by_parts : (J : Job) (deadline start goal reserve : ℕ) (form : Form) (counts : Counts)
    (pools handovers stores shortest : List ℕ) (actions : List act.Action) → deadline ≡ J.deadline → start ≡ J.start
    → goal ≡ J.goal → reserve ≡ J.reserve → form ≡ J.form → counts ≡ (job_value J).counts
    → pools ≡ filled 4 0 J.pools → handovers ≡ filled 4 0 J.handovers → stores ≡ filled 4 0 J.stores
    → shortest ≡ filled 64 0 J.shortest → HasActions actions J.actions
    → ◌≡◌ {A = held.Job}
    (record {
      facts = J.facts;
      form = form;
      rule = J.rule;
      reserve = reserve;
      deadline = deadline;
      handovers = handovers;
      start = start;
      goal = goal;
      counts = counts;
      pools = pools;
      stores = stores;
      shortest = shortest;
      actions = actions;
    })
    (job_value J)
value_by_parts J deadline start goal reserve form counts pools handovers stores shortest actions
    e1 e2 e3 e4 e5 e6 e7 e8 e9 e10 e11 =
    λ i.
    record {
      facts = J.facts;
      form = e5 i;
      rule = J.rule;
      reserve = e4 i;
      deadline = e1 i;
      handovers = e8 i;
      start = e2 i;
      goal = e3 i;
      counts = e6 i;
      pools = e7 i;
      stores = e9 i;
      shortest = e10 i;
      actions = e11 i;
    }
