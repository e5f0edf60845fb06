-- What tests 32 and 33 say of two jobs, and that both are the same in the other order.
-- Assumes nothing.
use Prim.Native.Nat.{ℕ, ◌+◌, ◌<◌, ◌≤◌, min}
use mathlib.Core.Path.{◌≡◌, refl, ap, ap₂, ◌∙◌}
use mathlib.Core.Bool.{false, not, ◌||◌}
use mathlib.Core.List.{List, ◌++◌}
use native.Mathlib.Omega.{arith}
use lib.Dec.{eqb}
use lib.ListN.{length}
use borrow.Author.Tests.{ltb-false, eqb-true, not-false}
use Rattle.lists.specs.Lists.{any, any_below}
use Rattle.lists.proofs.Below.{below_none, below_same}
use Rattle.lists.proofs.Bools.{or_left, or_right}
use Rattle.job.specs.declared.StoreRule.{StoreRule}
use Rattle.job.specs.declared.StoreRule.TheVariants.{PerStep, PerHour}
use Rattle.job.specs.Job.{Job, head_size}
use Rattle.job.specs.Resources.{handover}
use Rattle.job.specs.Valid.{over}
use Rattle.timeline.proofs.Tests.{eqb_sym}
use Rattle.pooling.specs.Pooled.{plus, too_large, handovers_differ, unlike}
use Rattle.pooling.proofs.Sums.{plus_comm}

-- ---- 33 does not hold
pub record Alike (A B : Job) : Type 0 where
  pub handovers : (pool : ℕ) → pool < length A.pools → pool < length B.pools → handover A pool ≡ handover B pool
  pub rule : A.rule ≡ B.rule
  pub reserve : A.reserve ≡ B.reserve

-- no two rules have as long a head
same_rule : (a b : StoreRule) → head_size a ≡ head_size b → a ≡ b
same_rule PerStep PerStep e = refl
same_rule PerStep PerHour e = absurd (omega arith)
same_rule PerHour PerStep e = absurd (omega arith)
same_rule PerHour PerHour e = refl

same_number_lem : (a b : ℕ) → not (eqb a b) ≡ false → a ≡ b
same_number_lem a b h = eqb-true a b (not-false (eqb a b) h)

pub alike_of_test : (A B : Job) → unlike A B ≡ false → Alike A B
alike_of_test A B h =
    let heads = not (eqb (head_size A.rule) (head_size B.rule)) in
    let most = or_left (handovers_differ A B || heads) _ h in
    let shared = or_left (handovers_differ A B) heads most in
    record {
      handovers = λ pool a b.
          same_number_lem _ _
          (below_none (min (length A.pools) (length B.pools))
          (λ k. not (eqb (handover A k) (handover B k))) shared pool (omega arith));
      rule = same_rule A.rule B.rule (same_number_lem _ _ (or_right (handovers_differ A B) heads most));
      reserve = same_number_lem _ _ (or_right (handovers_differ A B || heads) _ h);
    }

-- ---- 32 does not hold
module _ (A B : Job) (small : too_large A B ≡ false) where
  counts : (over 64 (A.facts + B.facts) || over 64 (length A.actions + length B.actions)) ≡ false
  counts = or_left _ (any (over 1000000) (plus A.pools B.pools ++ plus A.stores B.stores)) small

  pub few_facts : A.facts + B.facts ≤ 64
  few_facts = ltb-false 64 (A.facts + B.facts) (or_left (over 64 (A.facts + B.facts)) _ counts)

  pub few_actions_lem : length A.actions + length B.actions ≤ 64
  few_actions_lem = ltb-false 64 _ (or_right (over 64 (A.facts + B.facts)) _ counts)

  pub small_sums : any (over 1000000) (plus A.pools B.pools ++ plus A.stores B.stores) ≡ false
  small_sums =
      or_right (over 64 (A.facts + B.facts) || over 64 (length A.actions + length B.actions)) _ small

-- ---- the other order
pub too_large_other_order : (A B : Job) → too_large A B ≡ too_large B A
too_large_other_order A B =
    let facts : A.facts + B.facts ≡ B.facts + A.facts = omega arith in
    let actions : length A.actions + length B.actions ≡ length B.actions + length A.actions
    = omega arith in
    ap₂ ◌||◌ (ap₂ ◌||◌ (ap (over 64) facts) (ap (over 64) actions))
    (ap₂ (λ (xs ys : List ℕ). any (over 1000000) (xs ++ ys)) (plus_comm A.pools B.pools)
    (plus_comm A.stores B.stores))

pub unlike_other_order : (A B : Job) → unlike A B ≡ unlike B A
unlike_other_order A B =
    let shared : min (length A.pools) (length B.pools) ≡ min (length B.pools) (length A.pools)
    = omega arith in
    ap₂ ◌||◌
    (ap₂ ◌||◌
    (ap (λ (n : ℕ). any_below n (λ pool. not (eqb (handover A pool) (handover B pool)))) shared
    ∙ below_same (min (length B.pools) (length A.pools)) _ _
    (λ pool l. ap not (eqb_sym (handover A pool) (handover B pool))))
    (ap not (eqb_sym (head_size A.rule) (head_size B.rule))))
    (ap not (eqb_sym A.reserve B.reserve))
