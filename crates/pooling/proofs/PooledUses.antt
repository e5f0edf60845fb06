-- What the steps of two jobs use in the pooled job, and how much there is.
-- Assumes nothing.
use Prim.Native.Nat.{ℕ, ◌+◌, ◌-◌, ◌<◌, ◌≤◌}
use mathlib.Core.Path.{◌≡◌, refl, sym, ap, ◌∙◌}
use mathlib.Core.Bool.{Bool, true, false, cond}
use mathlib.Core.Logic.{⊎_elim}
use native.Mathlib.Omega.{arith}
use lib.ListN.{length, get_or, get_or-eq_default}
use Rattle.job.specs.declared.StoreRule.{StoreRule}
use Rattle.job.specs.declared.StoreRule.TheVariants.{PerStep, PerHour}
use Rattle.job.specs.Job.{Action, Job}
use Rattle.job.specs.Resources.{handover, charged_by, allowed_by, store_amount, store_cap}
use Rattle.timeline.specs.Step.{Step}
use Rattle.timeline.specs.Timeline.{free, has_share}
use Rattle.timeline.proofs.Tests.{le_or_lt}
use Rattle.timeline.proofs.Shares.{use_at}
use Rattle.pooling.specs.Pooled.{renumbered, pooled}
use Rattle.pooling.proofs.Steps.{in_pool}
use Rattle.pooling.proofs.Sums.{get_d_plus, get_d_filled, shares_rounded_down}
use Rattle.pooling.proofs.PoolTests.{Alike}

-- ---- pools
-- a step that runs when another does has its share when that has, where the pool's handover is the same
pub same_share : (W J : Job) (pool t : ℕ) (x y : Step) → y.start ≡ x.start → y.stop ≡ x.stop
    → handover W pool ≡ handover J pool → has_share W pool t y ≡ has_share J pool t x
unfolding free
same_share W J pool t x y start stop handovers = rw (start, stop, handovers)

-- a step uses of a pool in the pooled job what it uses in its own; of a pool that its job lacks, nothing
pub use_in_pool : (W J : Job) (pool t k n p s : ℕ) (x : Step) → length x.action.pools ≡ length J.pools
    → (pool < length J.pools → handover W pool ≡ handover J pool)
    → use_at W pool t (in_pool k n p s x) ≡ use_at J pool t x
use_in_pool W J pool t k n p s x exact same =
    ap (λ (m : ℕ). cond (has_share W pool t (in_pool k n p s x)) m 0) (get_d_filled p x.action.pools pool)
    ∙ ⊎_elim
    (λ (lacks : length J.pools ≤ pool).
    let none = get_or-eq_default x.action.pools 0 {n = pool} (omega arith) in
    nothing_used (has_share W pool t (in_pool k n p s x)) (has_share J pool t x) (get_or x.action.pools pool 0) none)
    (λ has.
    ap (λ (b : Bool). cond b (get_or x.action.pools pool 0) 0)
    (same_share W J pool t x (in_pool k n p s x) refl refl (same has)))
    (le_or_lt (length J.pools) pool)
  where
    nothing_used : (b c : Bool) (m : ℕ) → m ≡ 0 → cond b m 0 ≡ cond c m 0
    nothing_used true true m e = refl
    nothing_used true false m e = e
    nothing_used false true m e = sym e
    nothing_used false false m e = refl

-- ---- stores: what an action uses depends on the rule, its length and its uses alone
pub same_store_amount : (W J : Job) (store : ℕ) (b a : Action) → W.rule ≡ J.rule → b.duration ≡ a.duration
    → get_or b.stores store 0 ≡ get_or a.stores store 0 → store_amount W store b ≡ store_amount J store a
unfolding store_amount
same_store_amount W J store b a rule duration uses = rw (rule, duration, uses)

pub store_amount_in_pool : (W J : Job) (store k p s : ℕ) (a : Action) → W.rule ≡ J.rule
    → store_amount W store (renumbered k p s a) ≡ store_amount J store a
store_amount_in_pool W J store k p s a rule =
    same_store_amount W J store (renumbered k p s a) a rule refl (get_d_filled s a.stores store)

-- of a store that the action has no use for, nothing
pub no_store_amount : (J : Job) (store : ℕ) (a : Action) → length a.stores ≤ store → store_amount J store a ≡ 0
unfolding store_amount
no_store_amount J store a l =
    ap (charged_by J.rule a.duration) (get_or-eq_default a.stores 0 {n = store} l) ∙ nothing J.rule
  where
    nothing : (rule : StoreRule) → charged_by rule a.duration 0 ≡ 0
    nothing PerStep = refl
    nothing PerHour = omega arith

-- in a store there may be used no less than in both: parts rounded down add up to no more than the whole rounded down
allowed_of_both : (rule : StoreRule) (reserve a b : ℕ)
    → allowed_by rule reserve a + allowed_by rule reserve b ≤ allowed_by rule reserve (a + b)
allowed_of_both PerStep reserve a b = omega arith
allowed_of_both PerHour reserve a b = shares_rounded_down a b (100 - reserve)

pub cap_of_pooled : (A B : Job) → Alike A B → (store : ℕ)
    → store_cap A store + store_cap B store ≤ store_cap (pooled A B) store
unfolding store_cap
cap_of_pooled A B alike store =
    rw (get_d_plus A.stores B.stores store, ← alike.rule, ← alike.reserve)
    (allowed_of_both A.rule A.reserve (get_or A.stores store 0) (get_or B.stores store 0))
