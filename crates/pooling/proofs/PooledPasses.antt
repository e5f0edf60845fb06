-- Two jobs that are pooled give a job that passes every test of a job.
-- Assumes nothing.
use Prim.Native.Nat.{ℕ, ◌+◌, ◌-◌, ◌<◌, ◌≤◌, max}
use mathlib.Core.Path.{◌≡◌, refl, sym, ap, ◌∙◌}
use mathlib.Core.Bool.{Bool, true, false, cond}
use mathlib.Core.Logic.{⊎_elim}
use mathlib.Core.List.{map}
use native.Mathlib.Omega.{arith}
use lib.Dec.{ltb}
use lib.ListN.{length}
use borrow.Author.Tests.{le-ltb}
use Rattle.lists.specs.Lists.{any, any_below, Each}
use Rattle.lists.proofs.Any.{any_none, none_any}
use Rattle.lists.proofs.Below.{none_below}
use Rattle.lists.proofs.Tabulate.{each_map, each_tabulate}
use Rattle.facts.specs.FactSet.{union, foreign}
use Rattle.facts.proofs.SetLaws.{foreign_union}
use Rattle.job.specs.Refusal.{pass}
use Rattle.job.specs.Job.{Action, Job}
use Rattle.job.specs.Refusal.{first}
use Rattle.job.specs.Lengths.{longest_of, shortest_of}
use Rattle.job.specs.Resources.{handover}
use Rattle.job.specs.Valid.{ActionRule, Duration, Facts, Effects, Uses, over, breaks, has_wrong_range}
use Rattle.job.specs.Valid.{action_rows, limit_rows, uses_beyond, job_rows}
use Rattle.job.proofs.Table.{first_next, first_none, first_pass, first_append_pass, pass_of_append}
use Rattle.job.proofs.Values.{Shape}
use Rattle.job.proofs.Passed.{passed}
use Rattle.job.specs.Passed.{WithinFacts, Passed}
use Rattle.timeline.proofs.Tests.{or_neither, le_or_lt}
use Rattle.pooling.specs.Pooled.{behind, pooled_handover, pooled, too_large, unlike, pool_rows}
use Rattle.pooling.proofs.Behind.{within_more, not_foreign}
use Rattle.pooling.proofs.Sums.{length_plus, get_d_plus, each_of_map, each_of_append}
use Rattle.pooling.proofs.PoolTests.{alike_of_test, few_facts, few_actions_lem, small_sums}
use Rattle.pooling.proofs.PoolTests.{too_large_other_order, unlike_other_order}
use Rattle.pooling.proofs.PooledJob.{pool_count, store_count, first_action, second_action, count_of_actions}
use Rattle.pooling.proofs.PooledForm.{longest_of_first, longest_of_second, shortest_of_first}
use Rattle.pooling.proofs.PooledForm.{shortest_of_second}
use Rattle.pooling.proofs.PooledUses.{cap_of_pooled}
use Rattle.pooling.proofs.PassingActions.{within_of, not_foreign_behind, unbroken, each_both, small_handover}
use Rattle.pooling.proofs.PassingActions.{right_range, within_larger}

-- two jobs that are pooled: both pass, and neither 32 nor 33 holds
pub record Pooling (A B : Job) : Type 0 where
  pub shape_a : Shape A
  pub shape_b : Shape B
  pub valid_a : first (job_rows A) ≡ pass
  pub valid_b : first (job_rows B) ≡ pass
  pub not_too_large : too_large A B ≡ false
  pub not_unlike : unlike A B ≡ false

pub pooling_of_rows : (A B : Job) → Shape A → Shape B → first (pool_rows A B) ≡ pass → Pooling A B
unfolding pool_rows
pooling_of_rows A B shape_a shape_b h =
    let mine = pass_of_append (job_rows A) _ h in
    let other = pass_of_append (job_rows B) _ mine.1 in
    let size = first_pass _ _ _ other.1 in
    record {
      shape_a = shape_a;
      shape_b = shape_b;
      valid_a = mine.0;
      valid_b = other.0;
      not_too_large = size.0;
      not_unlike = (first_pass _ _ _ size.1).0;
    }

-- in the other order too
pub pooling_other_order : (A B : Job) → Pooling A B → Pooling B A
pooling_other_order A B h =
    record {
      shape_a = h.shape_b;
      shape_b = h.shape_a;
      valid_a = h.valid_b;
      valid_b = h.valid_a;
      not_too_large = sym (too_large_other_order A B) ∙ h.not_too_large;
      not_unlike = sym (unlike_other_order A B) ∙ h.not_unlike;
    }

module _ (A B : Job) (pooling : Pooling A B) where
  passed_a : Passed A
  passed_a = passed A pooling.valid_a

  passed_b : Passed B
  passed_b = passed B pooling.valid_b

  -- ---- each action of the pooled job
  none_of_both : (test : Action → Bool) → Each (λ a. test (first_action A B a) ≡ false) A.actions
      → Each (λ a. test (second_action A B a) ≡ false) B.actions → any test (pooled A B).actions ≡ false
  none_of_both test a b =
      none_any test (pooled A B).actions
      (each_of_append (λ x. test x ≡ false) (map (first_action A B) A.actions) (map (second_action A B) B.actions)
      (each_of_map (λ x. test x ≡ false) (first_action A B) A.actions a)
      (each_of_map (λ x. test x ≡ false) (second_action A B) B.actions b))

  none_breaks : (rule : ActionRule) → any (breaks rule (pooled A B).facts) (pooled A B).actions ≡ false
  none_breaks rule =
      none_of_both (breaks rule (pooled A B).facts)
      (each_map
      (λ a h. unbroken 0 A.facts (A.facts + B.facts) (pool_count A B) (store_count A B) (omega arith) a h rule)
      A.actions passed_a.actions)
      (each_map
      (λ a h.
      unbroken A.facts B.facts (A.facts + B.facts) (pool_count A B) (store_count A B) (omega arith) a h rule)
      B.actions passed_b.actions)

  right_ranges : any_below (length (pooled A B).actions) (has_wrong_range (pooled A B)) ≡ false
  right_ranges =
      none_below (length (pooled A B).actions) (has_wrong_range (pooled A B))
      (λ k l.
      let n = count_of_actions A B in
      ⊎_elim
      (λ (behind : length A.actions ≤ k).
      let i : ℕ = k - length A.actions in
      let e : k ≡ length A.actions + i = omega arith in
      let m : i < length B.actions = omega arith in
      right_range (pooled A B) B k i (passed_b.ranges i m)
      (ap (shortest_of (pooled A B)) e ∙ shortest_of_second A B pooling.shape_a pooling.shape_b i m)
      (ap (longest_of (pooled A B)) e ∙ longest_of_second A B pooling.shape_a pooling.shape_b i m))
      (λ (mine : k < length A.actions).
      right_range (pooled A B) A k k (passed_a.ranges k mine)
      (shortest_of_first A B pooling.shape_a pooling.shape_b k mine)
      (longest_of_first A B pooling.shape_a pooling.shape_b k mine))
      (le_or_lt (length A.actions) k))

  -- 26
  none_beyond : any (uses_beyond (pooled A B)) (pooled A B).actions ≡ false
  unfolding job_rows
  none_beyond =
      let alike = alike_of_test A B pooling.not_unlike in
      let beyond_a = (first_pass _ _ _ (pass_of_append (limit_rows A) _ pooling.valid_a).1).0 in
      let beyond_b = (first_pass _ _ _ (pass_of_append (limit_rows B) _ pooling.valid_b).1).0 in
      none_of_both (uses_beyond (pooled A B))
      (each_both
      (λ a shape h.
      within_larger (pooled A B) A 0 (pool_count A B) (store_count A B) a shape refl
      (λ pool. let e = get_d_plus A.pools B.pools pool in omega arith)
      (λ store. let e = cap_of_pooled A B alike store in omega arith) h)
      A.actions pooling.shape_a.actions (any_none (uses_beyond A) A.actions beyond_a))
      (each_both
      (λ a shape h.
      within_larger (pooled A B) B A.facts (pool_count A B) (store_count A B) a shape alike.rule
      (λ pool. let e = get_d_plus A.pools B.pools pool in omega arith)
      (λ store. let e = cap_of_pooled A B alike store in omega arith) h)
      B.actions pooling.shape_b.actions (any_none (uses_beyond B) B.actions beyond_b))

  -- ---- sets and handovers
  united : (a b : ℕ) → WithinFacts A.facts a → WithinFacts B.facts b
      → foreign (A.facts + B.facts) (union a (behind A.facts b)) ≡ false
  united a b u v =
      foreign_union (A.facts + B.facts) a (behind A.facts b)
      (not_foreign (A.facts + B.facts) a
      (within_more A.facts (A.facts + B.facts) a (omega arith) (within_of u)))
      (not_foreign_behind A.facts B.facts (A.facts + B.facts) b (omega arith) v)

  small_handovers : any (over 30) (pooled A B).handovers ≡ false
  small_handovers =
      none_any (over 30) (pooled A B).handovers
      (each_tabulate (λ x. over 30 x ≡ false) _ (pooled_handover A B)
      (λ pool l. le-ltb 30 (pooled_handover A B pool) (either_small (ltb pool (length A.pools)) pool)))
    where
      either_small : (c : Bool) (pool : ℕ) → cond c (handover A pool) (handover B pool) ≤ 30
      either_small true pool = small_handover A passed_a pool
      either_small false pool = small_handover B passed_b pool

  limits_pass : first (limit_rows (pooled A B)) ≡ pass
  unfolding limit_rows action_rows
  limits_pass =
      let n = length_plus A.pools B.pools in
      let m = length_plus A.stores B.stores in
      let c = count_of_actions A B in
      let na = passed_a.few_pools in
      let nb = passed_b.few_pools in
      let ma = passed_a.few_stores in
      let mb = passed_b.few_stores in
      let f = few_actions_lem A B pooling.not_too_large in
      let da = passed_a.deadline in
      let db = passed_b.deadline in
      first_next _ _ _
      (or_neither (or_neither (le-ltb 4 (pool_count A B) (omega arith)) (le-ltb 4 (store_count A B) (omega arith)))
      (le-ltb 64 (length (pooled A B).actions) (omega arith)))
      ∙ first_next _ _ _ (le-ltb 64 (A.facts + B.facts) (few_facts A B pooling.not_too_large))
      ∙ first_next _ _ _ (le-ltb 1440 (max A.deadline B.deadline) (omega arith))
      ∙ first_next _ _ _ (le-ltb 50 A.reserve passed_a.reserve)
      ∙ first_next _ _ _
      (or_neither (united A.start B.start passed_a.start passed_b.start)
      (united A.goal B.goal passed_a.goal passed_b.goal))
      ∙ first_next _ _ _ (small_sums A B pooling.not_too_large)
      ∙ first_next _ _ _ small_handovers
      ∙ first_next _ _ _ (none_breaks Duration)
      ∙ first_next _ _ _ right_ranges
      ∙ first_next _ _ _ (none_breaks Facts)
      ∙ first_next _ _ _ (none_breaks Effects)
      ∙ first_next _ _ _ (none_breaks Uses)
      ∙ first_none

  -- the pooled job passes every test of a job, so every call takes it
  pub pooled_passes : first (job_rows (pooled A B)) ≡ pass
  unfolding job_rows
  pooled_passes =
      first_append_pass (limit_rows (pooled A B)) _ limits_pass ∙ first_next _ _ _ none_beyond ∙ first_none
