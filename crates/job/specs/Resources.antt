-- What an action takes of pools and stores, and for how long. Whatever a rule about resources changes, changes here:
-- everything above goes by these names.
-- Assumes nothing.
use Rattle.std.specs.Prelude.{ℕ, ◌+◌, ◌*◌, ◌-◌, ◌/◌, ◌<◌, ◌≤◌, ◌≡◌, List, length, get_or}
use Rattle.lists.specs.Lists.{tabulate}
use Rattle.job.specs.declared.Action as act
use Rattle.job.specs.declared.Job as held
use Rattle.job.specs.declared.StoreRule.{StoreRule}
use Rattle.job.specs.declared.StoreRule.TheVariants.{PerStep, PerHour}
use Rattle.job.specs.Job.{Action, Job, reserve_in}

-- "Each pool gets a handover of 0 to 30 minutes, and a share stays in use that long after its step." A job whose form
-- has no handovers means 0
unfoldable pub handover : Job → ℕ → ℕ
handover J pool = get_or J.handovers pool 0

-- "each started hour of its length": "Length 60 counts once, 61 twice"
abbrev pub hours : ℕ → ℕ
hours minutes = (minutes + 59) / 60

-- "Under the new rule a step uses its store amount once for each started hour of its length"
abbrev pub charged_by : StoreRule → ℕ → ℕ → ℕ
charged_by PerStep minutes amount = amount
charged_by PerHour minutes amount = amount * hours minutes

-- "The allowed total is the availability times (100 − reserve), divided by 100, rounded down."
abbrev pub allowed_by : StoreRule → ℕ → ℕ → ℕ
allowed_by PerStep reserve available = available
allowed_by PerHour reserve available = available * (100 - reserve) / 100

-- how much of the store a step of the action uses up
unfoldable pub store_amount : Job → ℕ → Action → ℕ
store_amount J store a = charged_by J.rule a.duration (get_or a.stores store 0)

-- how much of the store may be used up: "no more than each store has", or its allowed total
unfoldable pub store_cap : Job → ℕ → ℕ
store_cap J store = allowed_by J.rule J.reserve (get_or J.stores store 0)

-- ---- the same in a value, place by place

-- the numbers are the handovers of the job's pools
abbrev pub HandoversOf : Job → List ℕ → Type 0
HandoversOf J handovers = (pool : ℕ) → pool < length J.pools → get_or handovers pool 0 ≡ handover J pool

-- a charge for at most five hours, of an amount of 32 bits
abbrev pub SmallCharge : ℕ → ℕ → Type 0
SmallCharge amount charge = (charge < 34359738368) × (charge ≤ 5 * amount)

-- what a step of the action uses up of each store
abbrev pub charged_in : held.Job → act.Action → List ℕ
charged_in job a = tabulate 4 (λ store. charged_by job.rule a.duration (get_or a.stores store 0))

-- how much of each store may be used up
abbrev pub allowed_in : held.Job → List ℕ
allowed_in job =
    tabulate 4 (λ store. allowed_by job.rule (reserve_in job.rule job.reserve) (get_or job.stores store 0))
