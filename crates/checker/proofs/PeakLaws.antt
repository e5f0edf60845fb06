-- The peaks of an accepted plan are no more than a pool can have; those of any plan, no more than 32 steps can use.
-- Assumes nothing.
use Prim.Native.Nat.{ℕ, ◌*◌, ◌≤◌, ◌<◌}
use mathlib.Core.Path.{◌≡◌, ap}
use mathlib.Core.Bool.{false}
use mathlib.Core.Logic.{⊎_elim}
use mathlib.Core.List.{List, [], ◌∷◌}
use native.Mathlib.Omega.{arith}
use lib.ListN.{length, get_or, get_or-eq_default}
use borrow.Author.Tests.{leb-false}
use Rattle.lists.specs.Lists.{any, Each}
use Rattle.lists.proofs.Tabulate.{each_at, length_tabulate}
use Rattle.job.specs.declared.Job as held
use Rattle.job.specs.Refusal.{pass}
use Rattle.job.specs.Job.{Action, Job, no_action, job_in}
use Rattle.job.specs.Refusal.{first}
use Rattle.job.specs.Passed.{PassedAction, Passed}
use Rattle.timeline.specs.declared.Plan.{Plan}
use Rattle.timeline.specs.Step.{Step, steps_in, total}
use Rattle.timeline.specs.Timeline.{peak}
use Rattle.timeline.specs.Accepted.{unknown, step_rows}
use Rattle.timeline.specs.Places.{EachStep}
use Rattle.timeline.specs.Keeps.{OfJob}
use Rattle.timeline.specs.Value.{step_at, steps_of}
use Rattle.timeline.proofs.AcceptedSteps.{accepted_steps}
use Rattle.timeline.proofs.JobSteps.{steps_in_bytes}
use Rattle.timeline.proofs.Peaks.{peak_at_most}
use Rattle.timeline.proofs.Places.{each_here, each_rest, none_of_any}
use Rattle.timeline.proofs.Shares.{use_at, use_at_most}
use Rattle.timeline.proofs.Tests.{le_or_lt}
use Rattle.checker.specs.Check.{SmallPeaks}

pub small_peaks_of_pass : (job : held.Job) (plan : Plan) (goal : ℕ) → Passed (job_in job)
    → first (step_rows (job_in job) goal (steps_of plan)) ≡ pass → SmallPeaks job plan
small_peaks_of_pass job plan goal within pass pool inside =
    let J = job_in job in
    let count = length_tabulate job.counts.pools (λ k. get_or job.pools k 0) in
    let keeps = accepted_steps J goal (steps_of plan) pass in
    let available = each_at (λ x. x ≤ 1000000) J.pools 0 within.pools pool (omega arith) in
    let most = peak_at_most J pool (steps_of plan) (get_or J.pools pool 0) (λ t. keeps.pools pool t (omega arith)) in
    omega arith

-- ---- steps that may exceed a pool: at most 32 of them, each with a use of at most 1,000,000
total_at_most : (f : Step → ℕ) (P : List Step) → EachStep (λ x. f x ≤ 1000000) P → total f P ≤ 1000000 * length P
total_at_most f [] h = omega arith
total_at_most f (x ∷ P) h =
    let here = each_here (λ y. f y ≤ 1000000) x P h in
    let rest = total_at_most f P (each_rest (λ y. f y ≤ 1000000) x P h) in
    omega arith

amount_at_most : (xs : List ℕ) → Each (λ x. x ≤ 1000000) xs → (k : ℕ) → get_or xs k 0 ≤ 1000000
amount_at_most xs h k =
    ⊎_elim (λ past. let none : get_or xs k 0 ≡ 0 = get_or-eq_default xs 0 past in omega arith)
    (λ inside. each_at (λ x. x ≤ 1000000) xs 0 h k inside)
    (le_or_lt (length xs) k)

module _ (J : Job) (within : Passed J) (P : List Step) (own : EachStep (OfJob J) P)
    (known : EachStep (λ x. x.number < length J.actions) P) where
  -- no step uses more of a pool than an action can
  pub use_at_most_a_million : (pool : ℕ) → EachStep (λ x. get_or x.action.pools pool 0 ≤ 1000000) P
  use_at_most_a_million pool x Q i =
      let mine : x.action ≡ get_or J.actions x.number no_action = ap (λ (y : Step). y.action) (own x Q i) in
      let ok = each_at (PassedAction J.facts) J.actions no_action within.actions x.number (known x Q i) in
      let amount = amount_at_most (get_or J.actions x.number no_action).pools ok.pools pool in
      let same = ap (λ (a : Action). get_or a.pools pool 0) mine in
      omega arith

  pub peak_of_few : length P ≤ 32 → (pool : ℕ) → peak J pool P ≤ 32000000
  peak_of_few few pool =
      peak_at_most J pool P 32000000
      (λ t.
      let sum = total_at_most (use_at J pool t) P
      (λ x Q i.
      let a = use_at_most J pool t x in let b = use_at_most_a_million pool x Q i in omega arith) in
      omega arith)

pub small_peaks_of_steps : (job : held.Job) (bytes : List ℕ) (plan : Plan) → Passed (job_in job)
    → any (unknown (job_in job)) (steps_in (job_in job) bytes) ≡ false → plan.length ≤ 32
    → steps_of plan ≡ steps_in (job_in job) bytes → SmallPeaks job plan
small_peaks_of_steps job bytes plan within none few same pool inside =
    let J = job_in job in
    let P = steps_in J bytes in
    let count : length (steps_of plan) ≡ length P = ap length same in
    let n = length_tabulate plan.length (step_at plan) in
    let small = peak_of_few J within P (steps_in_bytes J bytes)
    (λ x Q i. leb-false (length J.actions) x.number (none_of_any (unknown J) P none x Q i)) (omega arith) pool in
    let most : peak J pool (steps_of plan) ≡ peak J pool P = ap (peak J pool) same in
    omega arith
