-- A job and its value: the value holds the job, and in every value each action has a use of each pool and store, and,
-- if the form has them, each pool a handover and each action a shortest length.
-- Assumes nothing.
use Prim.Native.Nat.{ℕ, ◌≤◌}
use mathlib.Core.Path.{◌≡◌, refl, ap, sym, ◌∙◌}
use mathlib.Core.List.{List, [], ◌∷◌, map}
use native.Mathlib.Omega.{arith}
use lib.ListN.{length, get_or, length-map}
use Rattle.lists.specs.Lists.{firsts, filled, Each}
use Rattle.lists.proofs.Tabulate.{length_tabulate, map_tabulate, firsts_filled, each_tabulate}
use Rattle.job.specs.declared.Counts.{Counts}
use Rattle.job.specs.declared.Form.{Form}
use Rattle.job.specs.declared.Form.TheVariants.{Four, Five, Six}
use Rattle.job.specs.declared.StoreRule.{StoreRule}
use Rattle.job.specs.declared.StoreRule.TheVariants.{PerStep, PerHour}
use Rattle.job.specs.declared.Job as held
use Rattle.job.specs.Job.{Action, Job, handover_count, shortest_count, beyond, action_in, action_at, job_in}
use Rattle.job.specs.Job.{unused_action, action_value, job_value, reserve_in}

-- no more handovers than pools
pub few_handovers_lem : (form : Form) (pools : ℕ) → handover_count form pools ≤ pools
few_handovers_lem Four pools = omega arith
few_handovers_lem Five pools = omega arith
few_handovers_lem Six pools = omega arith

-- no more shortest lengths than actions
pub few_shortest_lem : (form : Form) (actions : ℕ) → shortest_count form actions ≤ actions
few_shortest_lem Four actions = omega arith
few_shortest_lem Five actions = omega arith
few_shortest_lem Six actions = omega arith

-- the action has a use of each of p pools and s stores
pub record Shaped (p s : ℕ) (a : Action) : Type 0 where
  pub pools : length a.pools ≡ p
  pub stores : length a.stores ≡ s

-- each action has a use of each pool and each store of the job, and there are as many handovers and shortest lengths as
-- the form has; under the old rule there is no reserve
pub record Shape (J : Job) : Type 0 where
  pub actions : Each (Shaped (length J.pools) (length J.stores)) J.actions
  pub handovers : length J.handovers ≡ handover_count J.form (length J.pools)
  pub shortest : length J.shortest ≡ shortest_count J.form (length J.actions)
  pub reserve : reserve_in J.rule J.reserve ≡ J.reserve

pub job_in_shape : (j : held.Job) → Shape (job_in j)
job_in_shape j =
    record {
      actions = each_tabulate _ j.counts.actions (action_at j)
          (λ i h. record { pools = simp length_tabulate; stores = simp length_tabulate });
      handovers = simp length_tabulate;
      shortest = simp length_tabulate;
      reserve = reserve_again j.rule j.reserve;
    }
  where
    reserve_again : (rule : StoreRule) (held : ℕ) → reserve_in rule (reserve_in rule held) ≡ reserve_in rule held
    reserve_again PerStep held = refl
    reserve_again PerHour held = refl

action_of_value : (n : Counts) (a : Action) → Shaped n.pools n.stores a → action_in n (action_value a) ≡ a
action_of_value n a h =
    rw (← h.pools, ← h.stores, firsts_filled 4 0 0 a.pools, firsts_filled 4 0 0 a.stores)

actions_of_values : (n : Counts) (actions : List Action) → Each (Shaped n.pools n.stores) actions
    → map (action_in n) (map action_value actions) ≡ actions
actions_of_values n [] h = refl
actions_of_values n (a ∷ actions) h = rw (action_of_value n a h.0, actions_of_values n actions h.1)

actions_of_job_value : (J : Job) → Shape J → (job_in (job_value J)).actions ≡ J.actions
actions_of_job_value J h =
    let n = (job_value J).counts in
    let array = (job_value J).actions in
    sym (map_tabulate (action_in n) (length J.actions) (λ i. get_or array i beyond))
    ∙ ap (λ (k : ℕ). map (action_in n) (firsts k beyond array)) (sym (length-map J.actions action_value))
    ∙ ap (map (action_in n)) (firsts_filled 64 unused_action beyond (map action_value J.actions))
    ∙ actions_of_values n J.actions h.actions

-- numbers in an array, as many as are counted
counted_again : (places count : ℕ) (xs : List ℕ) → length xs ≡ count → firsts count 0 (filled places 0 xs) ≡ xs
counted_again places count xs e =
    ap (λ (k : ℕ). firsts k 0 (filled places 0 xs)) (sym e) ∙ firsts_filled places 0 0 xs

pub value_holds_job : (J : Job) → Shape J → job_in (job_value J) ≡ J
value_holds_job J h =
    rw (
      h.reserve,
      firsts_filled 4 0 0 J.pools,
      counted_again 4 _ J.handovers h.handovers,
      firsts_filled 4 0 0 J.stores,
      counted_again 64 _ J.shortest h.shortest,
      actions_of_job_value J h,
    )
