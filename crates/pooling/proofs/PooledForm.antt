-- What depends on the form of the pooled job: its handovers and its shortest lengths.
-- Assumes nothing.
use Prim.Native.Nat.{ℕ, ◌+◌, ◌<◌, ◌≤◌, max}
use mathlib.Core.Path.{◌≡◌, refl, sym, ap, ap₂, ◌∙◌}
use mathlib.Core.Bool.{Bool, true, false, cond}
use mathlib.Core.Logic.{⊎_elim}
use mathlib.Core.List.{List, ◌++◌, map}
use native.Mathlib.Omega.{arith}
use lib.Dec.{ltb}
use lib.ListN.{length, get_or, length-append, get_or-append, get_or-eq_default}
use lib.Seq.{get_or-append-add}
use borrow.Author.Tests.{lt-ltb, le-ltb, ltb-true, ltb-false}
use Rattle.lists.specs.Lists.{tabulate, Each}
use Rattle.lists.proofs.Tabulate.{length_tabulate, get_d_tabulate, each_map}
use Rattle.job.specs.declared.Form.{Form}
use Rattle.job.specs.declared.Form.TheVariants.{Four, Five, Six}
use Rattle.job.specs.Job.{Action, Job, entries, handover_count, shortest_count, job_in, job_value}
use Rattle.job.specs.Lengths.{longest_of, shortest_of}
use Rattle.job.specs.Resources.{handover}
use Rattle.job.proofs.Values.{Shaped, Shape, value_holds_job}
use Rattle.timeline.proofs.Tests.{le_or_lt}
use Rattle.pooling.specs.Pooled.{renumbered, more_entries, pooled_handover, shortest_lengths, shortest_in, pooled}
use Rattle.pooling.proofs.Sums.{each_of_map, each_of_append, length_plus, length_filled}
use Rattle.pooling.proofs.PoolTests.{Alike}
use Rattle.pooling.proofs.PooledJob.{pool_count, store_count, first_action, second_action, count_of_actions}
use Rattle.pooling.proofs.PooledJob.{action_of_first, action_of_second}

-- ---- forms: the pooled one has no fewer entries than either
entries_of_more : (a b : Form) → (entries a ≤ entries (more_entries a b)) × (entries b ≤ entries (more_entries a b))
entries_of_more a b = go (ltb (entries a) (entries b)) refl
  where
    go : (c : Bool) → ltb (entries a) (entries b) ≡ c
        → (entries a ≤ entries (cond c b a)) × (entries b ≤ entries (cond c b a))
    go true h = let l = ltb-true (entries a) (entries b) h in (omega arith, omega arith)
    go false h = let l = ltb-false (entries a) (entries b) h in (omega arith, omega arith)

no_handovers : (form : Form) (n : ℕ) → entries form ≤ 4 → handover_count form n ≡ 0
no_handovers Four n l = refl
no_handovers Five n l = absurd (omega arith)
no_handovers Six n l = absurd (omega arith)

no_shortest : (form : Form) (n : ℕ) → entries form ≤ 5 → shortest_count form n ≡ 0
no_shortest Four n l = refl
no_shortest Five n l = refl
no_shortest Six n l = absurd (omega arith)

-- a job with few entries has handover 0, and shortest lengths equal to the longest
handover_zero : (J : Job) → Shape J → entries J.form ≤ 4 → (pool : ℕ) → handover J pool ≡ 0
unfolding handover
handover_zero J shape l pool =
    let e = shape.handovers in
    let z = no_handovers J.form (length J.pools) l in
    get_or-eq_default J.handovers 0 {n = pool} (omega arith)

shortest_is_longest : (J : Job) → Shape J → entries J.form ≤ 5 → (i : ℕ) → shortest_of J i ≡ longest_of J i
unfolding shortest_of
shortest_is_longest J shape l i =
    let e = shape.shortest in
    let z = no_shortest J.form (length J.actions) l in
    get_or-eq_default J.shortest (longest_of J i) {n = i} (omega arith)

-- no places
no_places : (f : ℕ → ℕ) (pool : ℕ) → get_or (tabulate 0 f) pool 0 ≡ 0
unfolding tabulate
no_places f pool = refl

module _ (A B : Job) (shape_a : Shape A) (shape_b : Shape B) where
  abbrev form : Form
  form = more_entries A.form B.form

  -- ---- handovers
  pub handover_of_pooled : (pool : ℕ) → pool < pool_count A B → handover (pooled A B) pool ≡ pooled_handover A B pool
  unfolding handover
  handover_of_pooled pool l = go form refl
    where
      nothing : (c : Bool) (x y : ℕ) → x ≡ 0 → y ≡ 0 → 0 ≡ cond c x y
      nothing true x y p q = sym p
      nothing false x y p q = sym q

      go : (f : Form) → form ≡ f
          → get_or (tabulate (handover_count f (pool_count A B)) (pooled_handover A B)) pool 0 ≡ pooled_handover A B pool
      go Four e =
          let few = ap entries e in
          let both = entries_of_more A.form B.form in
          let a = both.0 in
          let b = both.1 in
          no_places (pooled_handover A B) pool
          ∙ nothing (ltb pool (length A.pools)) (handover A pool) (handover B pool)
          (handover_zero A shape_a (omega arith) pool)
          (handover_zero B shape_b (omega arith) pool)
      go Five e = get_d_tabulate (pool_count A B) (pooled_handover A B) pool 0 l
      go Six e = get_d_tabulate (pool_count A B) (pooled_handover A B) pool 0 l

  -- a pool of the first job has its handover
  pub handover_of_first : (pool : ℕ) → pool < length A.pools → handover (pooled A B) pool ≡ handover A pool
  handover_of_first pool l =
      let n = length_plus A.pools B.pools in
      handover_of_pooled pool (omega arith)
      ∙ ap (λ (c : Bool). cond c (handover A pool) (handover B pool)) (lt-ltb pool (length A.pools) l)

  -- a pool of the second has its handover, where shared pools have the same
  pub handover_of_second : Alike A B → (pool : ℕ) → pool < length B.pools
      → handover (pooled A B) pool ≡ handover B pool
  handover_of_second alike pool l =
      ⊎_elim
      (λ (lacks : length A.pools ≤ pool).
      let n = length_plus A.pools B.pools in
      handover_of_pooled pool (omega arith)
      ∙ ap (λ (c : Bool). cond c (handover A pool) (handover B pool)) (le-ltb pool (length A.pools) lacks))
      (λ (has : pool < length A.pools). handover_of_first pool has ∙ alike.handovers pool has l)
      (le_or_lt (length A.pools) pool)

  -- ---- longest and shortest lengths
  pub longest_of_first : (i : ℕ) → i < length A.actions → longest_of (pooled A B) i ≡ longest_of A i
  longest_of_first i l = ap (λ (a : Action). a.duration) (action_of_first A B i l)

  pub longest_of_second : (i : ℕ) → i < length B.actions
      → longest_of (pooled A B) (length A.actions + i) ≡ longest_of B i
  longest_of_second i l = ap (λ (a : Action). a.duration) (action_of_second A B i l)

  abbrev lengths : List ℕ
  lengths = shortest_lengths A ++ shortest_lengths B

  count_of_first : length (shortest_lengths A) ≡ length A.actions
  count_of_first = length_tabulate (length A.actions) (shortest_of A)

  pub shortest_of_first : (i : ℕ) → i < length A.actions → shortest_of (pooled A B) i ≡ shortest_of A i
  unfolding shortest_of
  shortest_of_first i l = go form refl
    where
      older : entries form ≤ 5 → longest_of (pooled A B) i ≡ shortest_of A i
      older few =
          let a = (entries_of_more A.form B.form).0 in
          longest_of_first i l ∙ sym (shortest_is_longest A shape_a (omega arith) i)

      go : (f : Form) → form ≡ f → get_or (shortest_in f lengths) i (longest_of (pooled A B) i) ≡ shortest_of A i
      go Four e = let few = ap entries e in older (omega arith)
      go Five e = let few = ap entries e in older (omega arith)
      go Six e =
          let n = count_of_first in
          get_or-append (shortest_lengths A) (shortest_lengths B) _ i (omega arith)
          ∙ get_d_tabulate (length A.actions) (shortest_of A) i _ l

  pub shortest_of_second : (i : ℕ) → i < length B.actions
      → shortest_of (pooled A B) (length A.actions + i) ≡ shortest_of B i
  unfolding shortest_of
  shortest_of_second i l = go form refl
    where
      older : entries form ≤ 5 → longest_of (pooled A B) (length A.actions + i) ≡ shortest_of B i
      older few =
          let b = (entries_of_more A.form B.form).1 in
          longest_of_second i l ∙ sym (shortest_is_longest B shape_b (omega arith) i)

      go : (f : Form) → form ≡ f
          → get_or (shortest_in f lengths) (length A.actions + i) (longest_of (pooled A B) (length A.actions + i))
          ≡ shortest_of B i
      go Four e = let few = ap entries e in older (omega arith)
      go Five e = let few = ap entries e in older (omega arith)
      go Six e =
          let d : ℕ = longest_of (pooled A B) (length A.actions + i) in
          ap (λ (n : ℕ). get_or lengths (n + i) d) (sym count_of_first)
          ∙ get_or-append-add (shortest_lengths A) (shortest_lengths B) i d
          ∙ get_d_tabulate (length B.actions) (shortest_of B) i d l

  -- ---- the pooled job has its uses, handovers and shortest lengths by places, so its value holds it
  shape_renumbered : (k p s : ℕ) → p ≤ max (length A.pools) (length B.pools)
      → s ≤ max (length A.stores) (length B.stores) → (actions : List Action) → Each (Shaped p s) actions
      → Each (Shaped (pool_count A B) (store_count A B)) (map (renumbered k (pool_count A B) (store_count A B)) actions)
  shape_renumbered k p s l m actions shape =
      each_of_map (Shaped (pool_count A B) (store_count A B)) (renumbered k (pool_count A B) (store_count A B)) actions
      (each_map
      (λ a h.
      let u = h.pools in
      let v = h.stores in
      let i = length_plus A.pools B.pools in
      let j = length_plus A.stores B.stores in
      record {
        pools = length_filled (pool_count A B) a.pools (omega arith);
        stores = length_filled (store_count A B) a.stores (omega arith);
      })
      actions shape)

  count_of_shortest : (f : Form) → length (shortest_in f lengths) ≡ shortest_count f (length (pooled A B).actions)
  count_of_shortest Four = refl
  count_of_shortest Five = refl
  count_of_shortest Six =
      length-append (shortest_lengths A) (shortest_lengths B)
      ∙ ap₂ ◌+◌ count_of_first (length_tabulate (length B.actions) (shortest_of B))
      ∙ sym (count_of_actions A B)

  pub pooled_shape : Shape (pooled A B)
  pooled_shape =
      record {
        actions = each_of_append (Shaped (pool_count A B) (store_count A B))
            (map (first_action A B) A.actions) (map (second_action A B) B.actions)
            (shape_renumbered 0 (length A.pools) (length A.stores) (omega arith) (omega arith) A.actions
            shape_a.actions)
            (shape_renumbered A.facts (length B.pools) (length B.stores) (omega arith) (omega arith)
            B.actions shape_b.actions);
        handovers = length_tabulate (handover_count form (pool_count A B)) (pooled_handover A B);
        shortest = count_of_shortest form;
        reserve = shape_a.reserve;
      }

  -- a call can hand out the pooled job by value
  pub value_holds_pooled : job_in (job_value (pooled A B)) ≡ pooled A B
  value_holds_pooled = value_holds_job (pooled A B) pooled_shape
