-- Tests 13 to 20 of a list of steps, read as facts, and back.
-- Assumes nothing.
use Prim.Native.Nat.{ℕ, ◌<◌, ◌≤◌}
use mathlib.Core.Path.{◌≡◌, refl, ap, ◌∙◌}
use mathlib.Core.Bool.{Bool, true, false, not}
use mathlib.Core.Logic.{⊎_elim}
use mathlib.Core.List.{List, [], ◌∷◌}
use native.Mathlib.Omega.{arith}
use lib.Dec.{ltb}
use lib.ListN.{length, get_or}
use borrow.Author.Tests.{ltb-true, ltb-false, le-ltb, leb-false, lt-leb, not-false}
use Rattle.lists.proofs.Below.{below_none, none_below}
use Rattle.facts.specs.FactSet.{subset, Subset}
use Rattle.facts.proofs.Membership.{subset_decides}
use Rattle.job.specs.Resources.{store_cap}
use Rattle.job.specs.Job.{Job}
use Rattle.job.specs.Refusal.{Row, ◌when◌, first}
use Rattle.job.specs.declared.refusal.Refusal.{Refusal}
use Rattle.job.specs.Refusal.{pass}
use Rattle.job.proofs.Table.{first_next, first_pass}
use Rattle.timeline.specs.Step.{Step, strictly_rising, any_pair, largest}
use Rattle.timeline.specs.Timeline.{end, held, free, in_use, used_up}
use Rattle.timeline.specs.Accepted.{unknown, clashing, exceeds_pool, exceeds_store, lacks_need, step_rows}
use Rattle.timeline.specs.Places.{EachStep}
use Rattle.timeline.proofs.Tests.{decided}
use Rattle.timeline.proofs.Places.{none_of_any, any_of_none}
use Rattle.timeline.proofs.Places.{largest_at_least}
use Rattle.timeline.proofs.Shares.{free_is, nothing_in_use}

-- what the steps of an accepted plan keep
pub record AcceptedSteps (J : Job) (goal : ℕ) (P : List Step) : Type 0 where
  pub known : EachStep (λ x. x.number < length J.actions) P
  pub rising : strictly_rising P ≡ true
  pub before_deadline : EachStep (λ x. x.stop ≤ J.deadline) P
  pub no_clash : any_pair clashing P ≡ false
  pub pools : (pool t : ℕ) → pool < length J.pools → in_use J pool t P ≤ get_or J.pools pool 0
  pub stores : (store : ℕ) → store < length J.stores → used_up J store P ≤ store_cap J store
  pub needs_hold : EachStep (λ x. Subset x.action.needs (held J.start P x.start)) P
  pub goal_holds : Subset goal (held J.start P (end P))

-- a pool that is exceeded in no minute before all shares are free is exceeded in none
pool_respected : (J : Job) (P : List Step) (pool : ℕ) → exceeds_pool J P pool ≡ false
    → (t : ℕ) → in_use J pool t P ≤ get_or J.pools pool 0
pool_respected J P pool h t =
    ⊎_elim
    (λ e.
    ltb-false (get_or J.pools pool 0) (in_use J pool t P)
    (below_none (largest (free J pool) P) _ h t (ltb-true t (largest (free J pool) P) e)))
    (λ e.
    let late = ltb-false t (largest (free J pool) P) e in
    let none = nothing_in_use J pool t P
    (λ x Q i. let f = free_is J pool x in let l = largest_at_least (free J pool) i in omega arith) in
    omega arith)
    (decided (ltb t (largest (free J pool) P)))

missing : (set held : ℕ) → not (subset set held) ≡ false → Subset set held
missing set held h = (subset_decides set held).sound (not-false (subset set held) h)

not_missing : (set held : ℕ) → Subset set held → not (subset set held) ≡ false
not_missing set held h = ap not ((subset_decides set held).complete h)

pub accepted_steps : (J : Job) (goal : ℕ) (P : List Step) → first (step_rows J goal P) ≡ pass → AcceptedSteps J goal P
unfolding step_rows
accepted_steps J goal P h =
    let t13 = first_pass _ _ _ h in
    let t14 = first_pass _ _ _ t13.1 in
    let t15 = first_pass _ _ _ t14.1 in
    let t16 = first_pass _ _ _ t15.1 in
    let t17 = first_pass _ _ _ t16.1 in
    let t18 = first_pass _ _ _ t17.1 in
    let t19 = first_pass _ _ _ t18.1 in
    let t20 = first_pass _ _ _ t19.1 in
    record {
      known = λ x Q i. leb-false (length J.actions) x.number (none_of_any (unknown J) P t13.0 x Q i);
      rising = not-false (strictly_rising P) t14.0;
      before_deadline = λ x Q i. ltb-false J.deadline x.stop (none_of_any _ P t15.0 x Q i);
      no_clash = t16.0;
      pools = λ pool t l. pool_respected J P pool (below_none (length J.pools) _ t17.0 pool l) t;
      stores = λ store l.
          ltb-false (store_cap J store) (used_up J store P) (below_none (length J.stores) _ t18.0 store l);
      needs_hold = λ x Q i. missing x.action.needs _ (none_of_any (lacks_need J P) P t19.0 x Q i);
      goal_holds = missing goal _ t20.0;
    }

-- a table passes if its first row does not hold and the others pass
row_passes : (why : Refusal) (test : Bool) (rows : List Row) → test ≡ false → first rows ≡ pass
    → first (why when test ∷ rows) ≡ pass
row_passes why test rows h k = first_next why test rows h ∙ k

no_rows_pass : first [] ≡ pass
unfolding first
no_rows_pass = refl

pub steps_accepted : (J : Job) (goal : ℕ) (P : List Step) → AcceptedSteps J goal P → first (step_rows J goal P) ≡ pass
unfolding step_rows
steps_accepted J goal P k =
    row_passes _ _ _ (any_of_none (unknown J) P (λ x Q i. lt-leb (length J.actions) x.number (k.known x Q i)))
    (row_passes _ _ _ (ap not k.rising)
    (row_passes _ _ _ (any_of_none _ P (λ x Q i. le-ltb J.deadline x.stop (k.before_deadline x Q i)))
    (row_passes _ _ _ k.no_clash
    (row_passes _ _ _ (none_below (length J.pools) (exceeds_pool J P) pools_pass)
    (row_passes _ _ _ (none_below (length J.stores) (exceeds_store J P) stores_pass)
    (row_passes _ _ _ (any_of_none (lacks_need J P) P (λ x Q i. not_missing x.action.needs _ (k.needs_hold x Q i)))
    (row_passes _ _ _ (not_missing goal _ k.goal_holds) no_rows_pass)))))))
  where
    pools_pass : (pool : ℕ) → pool < length J.pools → exceeds_pool J P pool ≡ false
    pools_pass pool l =
        none_below (largest (free J pool) P) _
        (λ t b. le-ltb (get_or J.pools pool 0) (in_use J pool t P) (k.pools pool t l))

    stores_pass : (store : ℕ) → store < length J.stores → exceeds_store J P store ≡ false
    stores_pass store l = le-ltb (store_cap J store) (used_up J store P) (k.stores store l)
