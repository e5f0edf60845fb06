-- Two small jobs pooled, computed from the definitions: each has one action of three minutes, which uses one receiver.
-- Assumes nothing.
use mathlib.Core.Path.{◌≡◌, refl}
use mathlib.Core.List.{List, [], ◌∷◌}
use Prim.Native.Nat.{ℕ}
use Rattle.lists.specs.Lists.{tabulate, any}
use Rattle.facts.specs.FactSet.{has, union, difference, subset, meets, foreign}
use Rattle.job.specs.declared.Form.{Form}
use Rattle.job.specs.declared.Form.TheVariants.{Four, Five}
use Rattle.job.specs.declared.StoreRule.{StoreRule}
use Rattle.job.specs.declared.StoreRule.TheVariants.{PerStep, PerHour}
use Rattle.job.specs.declared.refusal.Refusal.TheVariants.{PoolTooLarge, PoolUnlike}
use Rattle.std.specs.Prelude.{Err}
use Rattle.job.specs.Refusal.{pass}
use Rattle.job.specs.Job.{Job}
use Rattle.job.specs.Lengths.{shortest_of}
use Rattle.job.specs.Refusal.{first}
use Rattle.job.specs.Resources.{handover, store_amount, store_cap}
use Rattle.job.specs.Valid.{action_rows, limit_rows, uses_beyond, job_rows}
use Rattle.timeline.specs.Timeline.{free}
use Rattle.timeline.specs.Accepted.{step_rows}
use Rattle.makespan.specs.Makespan.{ends_at, makespan_from, makespan}
use Rattle.pooling.specs.Pooled.{behind, plus, pooled, pool_rows}

-- the crew's job: its form, its rule and reserve, its receivers and their handover
abbrev crew : Form → StoreRule → ℕ → ℕ → List ℕ → Job
crew form rule reserve receivers handovers =
    record {
      facts = 1;
      deadline = 6;
      start = 0;
      goal = 1;
      form = form;
      rule = rule;
      reserve = reserve;
      pools = receivers ∷ [];
      handovers = handovers;
      stores = [];
      shortest = [];
      actions = record { duration = 3; needs = 0; adds = 1; deletes = 0; pools = 1 ∷ []; stores = [] } ∷ [];
    }

abbrev small : Job
small = crew Four PerStep 0 1 []

-- both work at the same time, each with a receiver
pub pooled_small : (first (pool_rows small small) ≡ pass)
    × (makespan (pooled small small) (pooled small small).goal ≡ ends_at 3)
unfolding tabulate any has union difference subset meets foreign first action_rows limit_rows uses_beyond job_rows free
    store_amount store_cap shortest_of step_rows makespan_from handover behind plus pool_rows
pooled_small = (refl, refl)

-- "a sum over 1,000,000" gives 32, a million itself does not; a handover on one side alone, other head forms or other
-- reserves give 33; 32 is told before 33
pub pooled_refused : (first (pool_rows small (crew Four PerStep 0 999999 [])) ≡ pass)
    × (first (pool_rows small (crew Four PerStep 0 1000000 [])) ≡ Err PoolTooLarge)
    × (first (pool_rows small (crew Five PerStep 0 1 (0 ∷ []))) ≡ pass)
    × (first (pool_rows small (crew Five PerStep 0 1 (5 ∷ []))) ≡ Err PoolUnlike)
    × (first (pool_rows small (crew Four PerHour 0 1 [])) ≡ Err PoolUnlike)
    × (first (pool_rows (crew Four PerHour 10 1 []) (crew Four PerHour 20 1 [])) ≡ Err PoolUnlike)
    × (first (pool_rows small (crew Five PerStep 0 1000000 (5 ∷ []))) ≡ Err PoolTooLarge)
unfolding tabulate any has meets foreign first action_rows limit_rows uses_beyond job_rows store_amount store_cap shortest_of
    handover behind plus pool_rows
pooled_refused = (refl, refl, refl, refl, refl, refl, refl)
