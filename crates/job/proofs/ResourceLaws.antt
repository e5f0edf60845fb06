-- What a value charges and allows, and for how long its shares stay in use, is what its job says.
-- Assumes nothing.
use Prim.Native.Nat.{ℕ, zero, suc, ◌<◌, ◌≤◌}
use mathlib.Core.Path.{◌≡◌, refl, sym, ap, ◌∙◌}
use mathlib.Core.List.{List, [], ◌∷◌}
use native.Mathlib.Nat.{mul-le-mul}
use native.Mathlib.Omega.{arith}
use lib.ListN.{get_or, replicate}
use Rattle.lists.specs.Lists.{tabulate}
use Rattle.lists.proofs.Tabulate.{get_d_tabulate, length_tabulate}
use Rattle.job.specs.declared.Action as act
use Rattle.job.specs.declared.Form.{Form}
use Rattle.job.specs.declared.Form.TheVariants.{Four, Five, Six}
use Rattle.job.specs.declared.Job as held
use Rattle.job.specs.declared.StoreRule.{StoreRule}
use Rattle.job.specs.declared.StoreRule.TheVariants.{PerStep, PerHour}
use Rattle.job.specs.Job.{Action, Job, handover_count, action_in, job_in}
use Rattle.job.specs.Resources.{handover, store_amount, store_cap, hours, charged_by, allowed_by, HandoversOf}
use Rattle.job.specs.Resources.{SmallCharge, charged_in, allowed_in}

pub charged_is : (job : held.Job) (a : act.Action) (store : ℕ) → store < job.counts.stores → store < 4
    → get_or (charged_in job a) store 0 ≡ store_amount (job_in job) store (action_in job.counts a)
unfolding store_amount
charged_is job a store l few =
    get_d_tabulate 4 (λ k. charged_by job.rule a.duration (get_or a.stores k 0)) store 0 few
    ∙ ap (charged_by job.rule a.duration)
    (sym (get_d_tabulate job.counts.stores (λ k. get_or a.stores k 0) store 0 l))

pub allowed_is : (job : held.Job) (store : ℕ) → store < job.counts.stores → store < 4
    → get_or (allowed_in job) store 0 ≡ store_cap (job_in job) store
unfolding store_cap
allowed_is job store l few =
    let reserve = (job_in job).reserve in
    get_d_tabulate 4 (λ k. allowed_by job.rule reserve (get_or job.stores k 0)) store 0 few
    ∙ ap (allowed_by job.rule reserve)
    (sym (get_d_tabulate job.counts.stores (λ k. get_or job.stores k 0) store 0 l))

-- "A season's old jobs must give their old ends": under the old rule a step uses up its amount, and all there is may be
-- used up
pub old_rule_as_before : (J : Job) → J.rule ≡ PerStep → (store : ℕ)
    → ((a : Action) → store_amount J store a ≡ get_or a.stores store 0) × (store_cap J store ≡ get_or J.stores store 0)
unfolding store_amount store_cap
old_rule_as_before J old store = (λ a. rw old, rw old)

-- four charges, each of its amount
pub four_charges : (a b c d : ℕ) (amounts : List ℕ) → SmallCharge (get_or amounts 0 0) a
    → SmallCharge (get_or amounts 1 0) b → SmallCharge (get_or amounts 2 0) c → SmallCharge (get_or amounts 3 0) d
    → (k : ℕ) → SmallCharge (get_or amounts k 0) (get_or {A = ℕ} (a ∷ b ∷ c ∷ d ∷ []) k 0)
four_charges a b c d amounts la lb lc ld zero = la
four_charges a b c d amounts la lb lc ld (suc zero) = lb
four_charges a b c d amounts la lb lc ld (suc (suc zero)) = lc
four_charges a b c d amounts la lb lc ld (suc (suc (suc zero))) = ld
four_charges a b c d amounts la lb lc ld (suc (suc (suc (suc k)))) = (omega arith, omega arith)

-- the charge of an action that passes its tests
pub small_charge : (rule : StoreRule) (minutes amount : ℕ) → minutes ≤ 255 → amount ≤ 1000000
    → charged_by rule minutes amount ≤ 5000000
small_charge PerStep minutes amount l m = omega arith
small_charge PerHour minutes amount l m =
    let h : hours minutes ≤ 5 = omega arith in
    mul-le-mul {n₂ = 1000000} {m₂ = 5} m h

-- ---- how long a share of a pool stays in use

only_zeros : (n k : ℕ) → get_or {A = ℕ} (replicate n 0) k 0 ≡ 0
only_zeros zero k = refl
only_zeros (suc n) zero = refl
only_zeros (suc n) (suc k) = only_zeros n k

-- without handovers in its form a job has the handover 0
pub handovers_of_four : (job : held.Job) → job.form ≡ Four → HandoversOf (job_in job) (replicate 4 0)
unfolding handover tabulate
handovers_of_four job four pool known = rw four (only_zeros 4 pool)

-- with handovers in its form it has those of its pools
handovers_of_pools : (job : held.Job) → handover_count job.form job.counts.pools ≡ job.counts.pools
    → HandoversOf (job_in job) job.handovers
unfolding handover
handovers_of_pools job all pool known =
    let n = job.counts.pools in
    rw all
    (sym (get_d_tabulate n (λ k. get_or job.handovers k 0) pool 0 (rw (length_tabulate n (λ k. get_or job.pools k 0)) at known)))

pub handovers_of_five : (job : held.Job) → job.form ≡ Five → HandoversOf (job_in job) job.handovers
handovers_of_five job five = handovers_of_pools job (ap (λ (f : Form). handover_count f job.counts.pools) five)

pub handovers_of_six : (job : held.Job) → job.form ≡ Six → HandoversOf (job_in job) job.handovers
handovers_of_six job six = handovers_of_pools job (ap (λ (f : Form). handover_count f job.counts.pools) six)
