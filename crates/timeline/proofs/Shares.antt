-- How long a step has its share of a pool, and what a step uses of a store.
-- Assumes nothing.
use Prim.Native.Nat.{ℕ, ◌+◌, ◌<◌, ◌≤◌}
use mathlib.Core.Path.{◌≡◌, refl, ap}
use mathlib.Core.Bool.{Bool, true, false, cond}
use mathlib.Core.List.{List}
use native.Mathlib.Omega.{arith}
use lib.Dec.{leb}
use lib.ListN.{get_or}
use borrow.Author.Tests.{ltb-true, lt-ltb, leb-true, le-leb}
use Rattle.lists.proofs.Bools.{and_left, and_right}
use Rattle.job.specs.Job.{Job}
use Rattle.job.specs.Resources.{handover}
use Rattle.timeline.specs.Step.{Step}
use Rattle.timeline.specs.Timeline.{free, has_share, in_use, store_use, used_up}
use Rattle.timeline.specs.Places.{Place, EachStep}
use Rattle.timeline.proofs.Tests.{and_both}
use Rattle.timeline.proofs.Places.{total_place, total_zero}

pub free_is : (J : Job) (pool : ℕ) (x : Step) → free J pool x ≡ x.stop + handover J pool
unfolding free
free_is J pool x = refl

pub store_use_of_action : (J : Job) (store : ℕ) (x y : Step) → x.action ≡ y.action
    → store_use J store x ≡ store_use J store y
store_use_of_action J store x y e = rw e

-- ---- the minutes of a share
pub share_reads : (J : Job) (pool t : ℕ) (x : Step) → has_share J pool t x ≡ true
    → (x.start ≤ t) × (t < x.stop + handover J pool)
share_reads J pool t x h =
    let f = free_is J pool x in
    let l = ltb-true t (free J pool x) (and_right (leb x.start t) _ h) in
    (leb-true x.start t (and_left _ _ h), omega arith)

pub share_when : (J : Job) (pool t : ℕ) (x : Step) → x.start ≤ t → t < x.stop + handover J pool
    → has_share J pool t x ≡ true
share_when J pool t x a b =
    let f = free_is J pool x in
    and_both (le-leb x.start t a) (lt-ltb t (free J pool x) (omega arith))

-- ---- what one step uses of the pool in minute t
abbrev pub use_at : Job → ℕ → ℕ → Step → ℕ
use_at J pool t x = cond (has_share J pool t x) (get_or x.action.pools pool 0) 0

pub use_at_most : (J : Job) (pool t : ℕ) (x : Step) → use_at J pool t x ≤ get_or x.action.pools pool 0
use_at_most J pool t x = go (has_share J pool t x) (get_or x.action.pools pool 0)
  where
    go : (b : Bool) (n : ℕ) → cond b n 0 ≤ n
    go true n = omega arith
    go false n = omega arith

pub use_of_share : (J : Job) (pool t : ℕ) (x : Step) → has_share J pool t x ≡ true
    → use_at J pool t x ≡ get_or x.action.pools pool 0
use_of_share J pool t x h = rw h

pub use_without_share : (J : Job) (pool t : ℕ) (x : Step) → (has_share J pool t x ≡ true → ⊥) → use_at J pool t x ≡ 0
use_without_share J pool t x h = go (has_share J pool t x) (get_or x.action.pools pool 0) h
  where
    go : (b : Bool) (n : ℕ) → (b ≡ true → ⊥) → cond b n 0 ≡ 0
    go true n f = absurd (f refl)
    go false n f = refl

-- a step of the same action that has its share no longer uses no more
pub use_mono : (J : Job) (pool t : ℕ) (x y : Step) → x.action ≡ y.action
    → (has_share J pool t x ≡ true → has_share J pool t y ≡ true) → use_at J pool t x ≤ use_at J pool t y
use_mono J pool t x y e h =
    go (has_share J pool t x) (has_share J pool t y) (get_or x.action.pools pool 0) (get_or y.action.pools pool 0)
    (ap (λ a. get_or a.pools pool 0) e) h
  where
    go : (b c : Bool) (n m : ℕ) → n ≡ m → (b ≡ true → c ≡ true) → cond b n 0 ≤ cond c m 0
    go true c n m e f = rw (f refl) (omega arith)
    go false c n m e f = omega arith

-- ---- what a list uses, with one step put in
pub in_use_place : (J : Job) (pool t : ℕ) {x : Step} {Q P : List Step} → Place x Q P
    → in_use J pool t P ≡ use_at J pool t x + in_use J pool t Q
in_use_place J pool t i = total_place (use_at J pool t) i

pub used_up_place : (J : Job) (store : ℕ) {x : Step} {Q P : List Step} → Place x Q P
    → used_up J store P ≡ store_use J store x + used_up J store Q
used_up_place J store i = total_place (store_use J store) i

-- nothing is in use where every share is free again
pub nothing_in_use : (J : Job) (pool t : ℕ) (P : List Step) → EachStep (λ x. x.stop + handover J pool ≤ t) P
    → in_use J pool t P ≡ 0
nothing_in_use J pool t P h =
    total_zero (use_at J pool t) P
    (λ x Q i.
    let after = h x Q i in
    use_without_share J pool t x (λ s. let before = (share_reads J pool t x s).1 in omega arith))
