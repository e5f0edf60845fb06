-- The job that a first half leaves: its pools and uses are the job's, its stores have what is left, and it is within
-- the limits of a job.
-- Assumes nothing.
use Prim.Native.Nat.{ℕ, zero, suc, ◌-◌, ◌<◌, ◌≤◌}
use mathlib.Core.Path.{◌≡◌, refl, sym, ap, subst, ◌∙◌}
use mathlib.Core.Bool.{Bool, true, false, cond, not, ◌&&◌, ◌||◌}
use mathlib.Core.List.{List}
use native.Mathlib.Nat.{mul-le-mul, le_refl}
use native.Mathlib.Omega.{arith}
use lib.Dec.{eqb}
use lib.ListN.{length, get_or}
use borrow.Author.Tests.{le-ltb, not-true}
use Rattle.lists.specs.Lists.{any, tabulate}
use Rattle.lists.proofs.Any.{any_append, none_any}
use Rattle.lists.proofs.Bools.{or_left, or_right}
use Rattle.lists.proofs.Tabulate.{each_at, each_tabulate, length_tabulate, get_d_tabulate}
use Rattle.facts.specs.FactSet.{has, difference, foreign, Within}
use Rattle.facts.proofs.Membership.{has_zero, has_union, has_difference, foreign_decides, within_unless_foreign}
use Rattle.job.specs.Job.{Job, no_action}
use Rattle.job.specs.Passed.{PassedAction, Passed}
use Rattle.job.specs.Refusal.{first}
use Rattle.job.specs.Resources.{handover, allowed_by, store_amount, store_cap}
use Rattle.job.specs.Lengths.{shortest_of}
use Rattle.job.specs.Valid.{over, action_rows, limit_rows, job_rows}
use Rattle.job.specs.declared.StoreRule.{StoreRule}
use Rattle.job.specs.declared.StoreRule.TheVariants.{PerStep, PerHour}
use Rattle.job.specs.Refusal.{pass}
use Rattle.job.proofs.Table.{first_next, first_pass}
use Rattle.job.proofs.Passed.{within_limits}
use Rattle.job.proofs.Rows.{limits_of_pass}
use Rattle.timeline.specs.Step.{Step, steps_in, plan_bytes}
use Rattle.timeline.specs.Timeline.{end, if_stops, deleted_at, added_at, held, free, in_use, used_up}
use Rattle.timeline.specs.Accepted.{Accepted}
use Rattle.timeline.specs.Places.{EachStep}
use Rattle.timeline.specs.Keeps.{OfJob}
use Rattle.timeline.proofs.Tests.{or_neither}
use Rattle.timeline.proofs.Places.{any_of_none}
use Rattle.timeline.proofs.HeldFacts.{has_union_of}
use Rattle.timeline.proofs.AcceptedSteps.{accepted_steps}
use Rattle.timeline.proofs.JobSteps.{steps_in_bytes, steps_of_accepted}
use Rattle.halving.specs.Afternoon.{left_of, afternoon}

-- ---- what is the same
module _ (J : Job) (A : List Step) where
  pub afternoon_in_use : (pool t : ℕ) (P : List Step) → in_use (afternoon J A) pool t P ≡ in_use J pool t P
  unfolding free handover
  afternoon_in_use pool t P = refl

  pub afternoon_used_up : (store : ℕ) (P : List Step) → used_up (afternoon J A) store P ≡ used_up J store P
  unfolding store_amount
  afternoon_used_up store P = refl

  -- the bytes of a plan mean the same steps
  pub afternoon_steps_in : (bytes : List ℕ) → steps_in (afternoon J A) bytes ≡ steps_in J bytes
  unfolding steps_in
  afternoon_steps_in bytes = refl

-- ---- what is left
-- the allowed total is at most what there is, and without a reserve it is all of it
pub allowed_part : (rule : StoreRule) (reserve available : ℕ) → allowed_by rule reserve available ≤ available
allowed_part PerStep reserve available = omega arith
allowed_part PerHour reserve available =
    let part : 100 - reserve ≤ 100 = omega arith in
    let less = mul-le-mul {n₂ = available} {m₂ = 100} (le_refl available) part in
    omega arith

pub allowed_whole : (rule : StoreRule) (available : ℕ) → allowed_by rule 0 available ≡ available
allowed_whole PerStep available = refl
allowed_whole PerHour available = omega arith

left_in_store : (J : Job) (A : List Step) (store : ℕ) → store < length J.stores
    → get_or (afternoon J A).stores store 0 ≡ left_of J A store
left_in_store J A store l =
    get_d_tabulate (length J.stores) (λ k. get_or (tabulate (length J.stores) (left_of J A)) k 0) store 0 l
    ∙ get_d_tabulate (length J.stores) (left_of J A) store 0 l

all_allowed : (J : Job) (A : List Step) (store : ℕ)
    → store_cap (afternoon J A) store ≡ get_or (afternoon J A).stores store 0
unfolding store_cap
all_allowed J A store = allowed_whole J.rule (get_or (afternoon J A).stores store 0)

-- "18 then counts the two halves together": what the second half may use up is what the first has left
pub afternoon_cap : (J : Job) (A : List Step) (store : ℕ) → store < length J.stores
    → store_cap (afternoon J A) store ≡ left_of J A store
afternoon_cap J A store l = all_allowed J A store ∙ left_in_store J A store l

-- ---- within the limits
-- steps that add facts of the job alone leave facts of the job alone
held_within : (facts start : ℕ) (P : List Step) → Within facts start
    → EachStep (λ x. Within facts x.action.adds) P → (t : ℕ) → Within facts (held start P t)
held_within facts start P within adds zero n l = within n l
held_within facts start P within adds (suc t) n l =
    has_union (difference (held start P t) (deleted_at (suc t) P)) (added_at (suc t) P) n
    ∙ or_neither
    (has_difference (held start P t) (deleted_at (suc t) P) n
    ∙ ap (λ (b : Bool). b && not (has (deleted_at (suc t) P) n)) (held_within facts start P within adds t n l))
    (has_union_of (λ x. if_stops (suc t) x.action.adds x) n P
    ∙ any_of_none (λ x. has (if_stops (suc t) x.action.adds x) n) P
    (λ x Q i. none_when (eqb x.stop (suc t)) x.action.adds (adds x Q i n l)))
  where
    none_when : (b : Bool) (set : ℕ) → has set n ≡ false → has (cond b set 0) n ≡ false
    none_when true set e = e
    none_when false set e = has_zero n

-- no more than 1,000,000 of a store may be used up
cap_small : (J : Job) → Passed J → (store : ℕ) → store < length J.stores → store_cap J store ≤ 1000000
unfolding store_cap
cap_small J passed store l =
    let part = allowed_part J.rule J.reserve (get_or J.stores store 0) in
    let most = each_at (λ x. x ≤ 1000000) J.stores 0 passed.stores store l in
    omega arith

module _ (J : Job) (P : List Step) (valid : first (limit_rows J) ≡ pass) (own : EachStep (OfJob J) P)
    (known : EachStep (λ x. x.number < length J.actions) P) where
  left_within : Within J.facts (afternoon J P).start
  left_within =
      let passes = within_limits J valid in
      held_within J.facts J.start P (within_unless_foreign J.facts J.start passes.start.within)
      (λ x Q i.
      let mine : x.action ≡ get_or J.actions x.number no_action = ap (λ (y : Step). y.action) (own x Q i) in
      let ok : PassedAction J.facts x.action
      = rw mine
      (each_at (PassedAction J.facts) J.actions no_action passes.actions x.number (known x Q i)) in
      within_unless_foreign J.facts x.action.adds ok.adds.within)
      (end P)

  left_small : any (over 1000000) (afternoon J P).stores ≡ false
  left_small =
      let n = length J.stores in
      none_any (over 1000000) (afternoon J P).stores
      (each_tabulate (λ x. over 1000000 x ≡ false) n (λ k. get_or (tabulate n (left_of J P)) k 0)
      (λ k l.
      let c = cap_small J (within_limits J valid) k l in
      let e = get_d_tabulate n (left_of J P) k 0 l in
      le-ltb 1000000 (get_or (tabulate n (left_of J P)) k 0) (omega arith)))

  -- tests 3 to 11, 27, 29 and 31; 26 may refuse it
  pub afternoon_limits : first (limit_rows (afternoon J P)) ≡ pass
  unfolding limit_rows action_rows shortest_of
  afternoon_limits =
      let t3 = first_pass _ _ _ valid in
      let t4 = first_pass _ _ _ t3.1 in
      let t5 = first_pass _ _ _ t4.1 in
      let t31 = first_pass _ _ _ t5.1 in
      let t6 = first_pass _ _ _ t31.1 in
      let t7 = first_pass _ _ _ t6.1 in
      let count = length_tabulate (length J.stores) (λ k. get_or (tabulate (length J.stores) (left_of J P)) k 0) in
      let pools = or_left (any (over 1000000) J.pools) (any (over 1000000) J.stores)
      (sym (any_append (over 1000000) J.pools J.stores) ∙ t7.0) in
      first_next _ _ _
      (ap (λ (n : ℕ). over 4 (length J.pools) || over 4 n || over 64 (length J.actions)) count ∙ t3.0)
      ∙ first_next _ _ _ t4.0
      ∙ first_next _ _ _ t5.0
      ∙ first_next _ _ _ refl
      ∙ first_next _ _ _
      (or_neither
      (not-true (foreign J.facts (afternoon J P).start)
      ((foreign_decides J.facts (afternoon J P).start).complete left_within))
      (or_right (foreign J.facts J.start) (foreign J.facts J.goal) t6.0))
      ∙ first_next _ _ _ (any_append (over 1000000) J.pools (afternoon J P).stores ∙ or_neither pools left_small)
      ∙ t7.1

-- behind an accepted plan
pub afternoon_within : (J : Job) → first (job_rows J) ≡ pass → (halfway : ℕ) (A : List Step)
    → Accepted J halfway (plan_bytes A) → steps_in J (plan_bytes A) ≡ A → Passed (afternoon J A)
afternoon_within J valid halfway A accepted same =
    let P = steps_in J (plan_bytes A) in
    let known = (accepted_steps J halfway P (steps_of_accepted J halfway (plan_bytes A) accepted)).known in
    within_limits (afternoon J A)
    (subst (λ (R : List Step). first (limit_rows (afternoon J R)) ≡ pass) same
    (afternoon_limits J P (limits_of_pass J valid) (steps_in_bytes J (plan_bytes A)) known))
