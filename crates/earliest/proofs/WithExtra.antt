-- A job with more actions behind its own: its actions by their places, its pools, and the job itself where there are
-- none.
-- Assumes nothing.
use Prim.Native.Nat.{ℕ, ◌+◌, ◌-◌, ◌≤◌, ◌<◌}
use mathlib.Core.Path.{◌≡◌, refl, ap, ap₂, subst, ◌∙◌}
use mathlib.Core.List.{List, append-nil}
use native.Mathlib.Omega.{arith}
use lib.ListN.{length, get_or, length-append, get_or-append}
use lib.Seq.{get_or-append-add}
use Rattle.lists.specs.Lists.{tabulate}
use Rattle.lists.proofs.Tabulate.{length_tabulate, get_d_tabulate}
use Rattle.job.specs.declared.Job as held
use Rattle.job.specs.Refusal.{pass}
use Rattle.job.specs.Job.{Action, Job, job_in, action_at, beyond, no_action}
use Rattle.job.specs.Refusal.{first}
use Rattle.job.specs.Valid.{job_rows}
use Rattle.job.proofs.Passed.{passed}
use Rattle.job.proofs.Rows.{fits_of_pass}
use Rattle.earliest.specs.declared.extra.Extra.{Extra}
use Rattle.earliest.specs.Extra.{no_extra, extra_at, extra_actions, with_actions, with_extra, AllFit}
use Rattle.earliest.specs.Sweep.{HasPools, IsAction, Filled}

-- ---- no action behind the job's own
pub with_no_extra : (job : held.Job) → with_extra job no_extra ≡ job_in job
unfolding tabulate
with_no_extra job = ap (with_actions (job_in job)) (append-nil (job_in job).actions)

pub fits_with_no_extra : (job : held.Job) (extra : Extra) → extra ≡ no_extra → first (job_rows (job_in job)) ≡ pass
    → AllFit job extra
fits_with_no_extra job extra none passes =
    let count : extra.count ≡ 0 = ap (λ (e : Extra). e.count) none in
    record {
      facts = (passed (job_in job) passes).facts;
      counts = fits_of_pass job passes;
      count = omega arith;
    }

pub filled_with_no_extra : (job : held.Job) (extra : Extra) (xs : List ℕ) → extra ≡ no_extra
    → Filled (with_extra job extra) xs → Filled (job_in job) xs
filled_with_no_extra job extra xs none =
    subst (λ (J : Job). Filled J xs) (ap (with_extra job) none ∙ with_no_extra job)

-- ---- the actions by their places
module _ (job : held.Job) (extra : Extra) where
  abbrev J : Job
  J = with_extra job extra

  abbrev own : List Action
  own = (job_in job).actions

  abbrev more : List Action
  more = extra_actions job.counts extra

  own_count : length own ≡ job.counts.actions
  own_count = length_tabulate job.counts.actions (action_at job)

  pub action_count : length J.actions ≡ job.counts.actions + extra.count
  action_count = length-append own more ∙ ap₂ ◌+◌ own_count (length_tabulate extra.count (extra_at job.counts extra))

  pub is_own_action : (i : ℕ) → i < job.counts.actions
      → IsAction J job.facts i job.counts (get_or job.actions i beyond)
  is_own_action i l =
      let all = action_count in
      let count = own_count in
      record {
        same_facts = refl;
        known = omega arith;
        same = get_or-append own more no_action i (omega arith)
            ∙ get_d_tabulate job.counts.actions (action_at job) i no_action l;
      }

  -- the place of one behind is in their array
  pub extra_place : AllFit job extra → (i : ℕ) → i < length J.actions → i - job.counts.actions < 32
  extra_place fits i l = let all = action_count in let few = fits.count in omega arith

  pub is_extra_action : (i : ℕ) → job.counts.actions ≤ i → i < length J.actions
      → IsAction J job.facts i job.counts (get_or extra.actions (i - job.counts.actions) beyond)
  is_extra_action i l known =
      let all = action_count in
      let count = own_count in
      let behind : ℕ = i - job.counts.actions in
      let place : i ≡ length own + behind = omega arith in
      record {
        same_facts = refl;
        known = known;
        same = ap (λ (n : ℕ). get_or J.actions n no_action) place
            ∙ get_or-append-add own more behind no_action
            ∙ get_d_tabulate extra.count (extra_at job.counts extra) behind no_action (omega arith);
      }

  pub has_pools : HasPools J job.counts job.counts.pools job.pools
  has_pools = record { same_count = refl; same = refl }
