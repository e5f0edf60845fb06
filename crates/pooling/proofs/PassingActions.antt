-- A set, an action and a handover that pass in one of two jobs pass in the pooled job.
-- Assumes nothing.
use Prim.Native.Nat.{ℕ, ◌+◌, ◌^◌, ◌<◌, ◌≤◌}
use mathlib.Core.Path.{◌≡◌, sym, ap, ◌∙◌}
use mathlib.Core.Bool.{false}
use mathlib.Core.Logic.{⊎_elim}
use mathlib.Core.List.{List, [], ◌∷◌}
use native.Mathlib.Omega.{arith}
use lib.ListN.{length, get_or, get_or-eq_default}
use borrow.Author.Tests.{ltb-false, le-ltb, ne_eqb}
use Rattle.lists.specs.Lists.{filled, any_below, Each}
use Rattle.lists.proofs.Any.{any_append}
use Rattle.lists.proofs.Below.{below_none, none_below}
use Rattle.lists.proofs.Bools.{or_left, or_right}
use Rattle.facts.specs.FactSet.{has, foreign, Within}
use Rattle.facts.proofs.Membership.{within_word, within_unless_foreign}
use Rattle.facts.proofs.SetLaws.{no_common_member, not_in_both}
use Rattle.job.specs.Job.{Action, Job}
use Rattle.job.specs.Lengths.{longest_of, shortest_of}
use Rattle.job.specs.Resources.{handover, store_amount, store_cap}
use Rattle.job.specs.Valid.{ActionRule, Duration, Facts, Effects, Uses, over, breaks, has_wrong_range, uses_beyond}
use Rattle.job.proofs.Values.{Shaped}
use Rattle.job.proofs.Passed.{passed}
use Rattle.job.specs.Passed.{WithinFacts, PassedAction, Passed}
use Rattle.timeline.proofs.Tests.{or_neither, le_or_lt}
use Rattle.pooling.specs.Pooled.{behind, renumbered}
use Rattle.pooling.proofs.Behind.{behind_member, behind_within, within_more, not_foreign}
use Rattle.pooling.proofs.Sums.{get_d_at_most, get_d_filled, filled_small}
use Rattle.pooling.proofs.PooledUses.{store_amount_in_pool, no_store_amount}

pub within_of : {facts set : ℕ} → WithinFacts facts set → Within facts set
within_of {facts} {set} w = within_unless_foreign facts set w.within

-- a set behind k facts is within k facts more
pub not_foreign_behind : (k facts more set : ℕ) → k + facts ≤ more → WithinFacts facts set
    → foreign more (behind k set) ≡ false
not_foreign_behind k facts more set l w =
    not_foreign more (behind k set)
    (within_more (k + facts) more (behind k set) l (behind_within k facts set (within_of w)))

-- a set of the second job fits a word behind the facts of the first
pub behind_word : (k facts set : ℕ) → k + facts ≤ 64 → WithinFacts facts set → behind k set < 2 ^ 64
behind_word k facts set l w =
    within_word (k + facts) (behind k set) (not_foreign_behind k facts (k + facts) set (omega arith) w) l

-- a renumbered action breaks no rule
pub unbroken : (k facts more p s : ℕ) → k + facts ≤ more → (a : Action) → PassedAction facts a → (rule : ActionRule)
    → breaks rule more (renumbered k p s a) ≡ false
unbroken k facts more p s l a h Duration = let d = h.duration in ne_eqb a.duration 0 (λ e. omega arith)
unbroken k facts more p s l a h Facts =
    or_neither
    (or_neither (not_foreign_behind k facts more a.needs l h.needs)
    (not_foreign_behind k facts more a.adds l h.adds))
    (not_foreign_behind k facts more a.deletes l h.deletes)
unbroken k facts more p s l a h Effects =
    no_common_member (behind k a.adds) (behind k a.deletes)
    (λ n x y.
    let u = behind_member k a.adds n x in
    let v = behind_member k a.deletes n y in
    let e = u.1 in
    let f = v.1 in
    let same : v.0 ≡ u.0 = omega arith in
    not_in_both a.adds a.deletes u.0 h.effects u.2 (ap (has a.deletes) (sym same) ∙ v.2))
unbroken k facts more p s l a h Uses =
    any_append (over 1000000) _ _
    ∙ or_neither (filled_small p a.pools h.pools) (filled_small s a.stores h.stores)

-- two facts of each element
pub each_both : {P Q R : Action → Type 0} → ((a : Action) → P a → Q a → R a) → (xs : List Action)
    → Each P xs → Each Q xs → Each R xs
each_both f [] p q = tt
each_both f (x ∷ xs) p q = (f x p.0 q.0, each_both f xs p.1 q.1)

pub small_handover : (J : Job) → Passed J → (pool : ℕ) → handover J pool ≤ 30
unfolding handover
small_handover J passed pool = get_d_at_most 30 J.handovers passed.handovers pool

-- shortest and longest lengths of an action that passes
pub right_range : (W J : Job) (k i : ℕ) → (0 < shortest_of J i) × (shortest_of J i ≤ longest_of J i)
    → shortest_of W k ≡ shortest_of J i → longest_of W k ≡ longest_of J i → has_wrong_range W k ≡ false
right_range W J k i range shortest longest =
    let a = range.0 in
    let b = range.1 in
    or_neither (ne_eqb (shortest_of W k) 0 (λ e. omega arith)) (le-ltb (longest_of W k) (shortest_of W k) (omega arith))

-- an action that uses no more than its job has uses no more than a larger job has
pub within_larger : (W J : Job) (k p s : ℕ) (a : Action) → Shaped (length J.pools) (length J.stores) a
    → W.rule ≡ J.rule → ((pool : ℕ) → get_or J.pools pool 0 ≤ get_or W.pools pool 0)
    → ((store : ℕ) → store_cap J store ≤ store_cap W store) → uses_beyond J a ≡ false
    → uses_beyond W (renumbered k p s a) ≡ false
unfolding uses_beyond
within_larger W J k p s a shape rule pools caps h =
    or_neither
    (none_below (length W.pools) _
    (λ pool l. le-ltb (get_or W.pools pool 0) (get_or (filled p 0 a.pools) pool 0) (pool_within pool)))
    (none_below (length W.stores) _
    (λ store l. le-ltb (store_cap W store) (store_amount W store (renumbered k p s a)) (store_within store)))
  where
    tests : ((pool : ℕ) → pool < length J.pools → over (get_or J.pools pool 0) (get_or a.pools pool 0) ≡ false)
        × ((store : ℕ) → store < length J.stores → over (store_cap J store) (store_amount J store a) ≡ false)
    tests = (
      below_none (length J.pools) _ (or_left _ _ h),
      below_none (length J.stores) _ (or_right (any_below (length J.pools) _) _ h),
    )

    pool_within : (pool : ℕ) → get_or (filled p 0 a.pools) pool 0 ≤ get_or W.pools pool 0
    pool_within pool =
        let e = get_d_filled p a.pools pool in
        let more = pools pool in
        let n = shape.pools in
        ⊎_elim
        (λ (lacks : length J.pools ≤ pool).
        let z = get_or-eq_default a.pools 0 {n = pool} (omega arith) in omega arith)
        (λ (has : pool < length J.pools).
        let l = ltb-false (get_or J.pools pool 0) (get_or a.pools pool 0) (tests.0 pool has) in omega arith)
        (le_or_lt (length J.pools) pool)

    store_within : (store : ℕ) → store_amount W store (renumbered k p s a) ≤ store_cap W store
    store_within store =
        let e = store_amount_in_pool W J store k p s a rule in
        let more = caps store in
        let n = shape.stores in
        ⊎_elim
        (λ (lacks : length J.stores ≤ store). let z = no_store_amount J store a (omega arith) in omega arith)
        (λ (has : store < length J.stores).
        let l = ltb-false (store_cap J store) (store_amount J store a) (tests.1 store has) in omega arith)
        (le_or_lt (length J.stores) store)
