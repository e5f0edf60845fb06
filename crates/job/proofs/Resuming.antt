-- A value of what is left of a day holds the job of what is left.
-- Assumes nothing.
use Prim.Native.Nat.{ℕ}
use mathlib.Core.Path.{◌≡◌, refl}
use mathlib.Core.List.{List}
use lib.ListN.{get_or}
use Rattle.lists.proofs.Tabulate.{length_tabulate}
use Rattle.job.specs.declared.Job as held
use Rattle.job.specs.declared.StoreRule.{StoreRule}
use Rattle.job.specs.declared.StoreRule.TheVariants.{PerStep, PerHour}
use Rattle.job.specs.Job.{job_in, reserve_in}
use Rattle.job.specs.Resumed.{resumed, resumed_value, without_reserve, unreserved_value}

pub job_in_resumed : (job : held.Job) (start : ℕ) (stores : List ℕ)
    → job_in (resumed_value job start stores) ≡ resumed (job_in job) start stores
job_in_resumed job start stores = rw (length_tabulate job.counts.stores (λ k. get_or job.stores k 0))

-- with its own facts and stores a job is as it was
pub resumed_as_it_is : (job : held.Job) → resumed (job_in job) job.start job.stores ≡ job_in job
resumed_as_it_is job = rw (length_tabulate job.counts.stores (λ k. get_or job.stores k 0))

-- with no part of its stores kept back
no_reserve : (rule : StoreRule) → reserve_in rule 0 ≡ 0
no_reserve PerStep = refl
no_reserve PerHour = refl

pub job_in_unreserved : (job : held.Job) → job_in (unreserved_value job) ≡ without_reserve (job_in job)
job_in_unreserved job = rw (no_reserve job.rule)
