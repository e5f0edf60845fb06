-- An accepted plan by value: its steps are the job's own, and with true lengths no number is too large.
-- Assumes nothing.
use Prim.Native.Nat.{ℕ, ◌+◌, ◌<◌, ◌≤◌}
use mathlib.Core.Path.{◌≡◌, sym, ap, ◌∙◌}
use mathlib.Core.Bool.{false}
use mathlib.Core.List.{List}
use native.Mathlib.Omega.{arith}
use lib.Dec.{ltb}
use lib.ListN.{length, get_or}
use borrow.Author.Tests.{ltb-false}
use Rattle.lists.proofs.Below.{below_none}
use Rattle.lists.proofs.Bools.{or_right}
use Rattle.lists.proofs.Tabulate.{length_tabulate}
use Rattle.job.specs.declared.Job as held
use Rattle.job.specs.Job.{Job, job_in, action_at}
use Rattle.job.specs.Refusal.{first}
use Rattle.job.specs.Lengths.{longest_of, shortest_of}
use Rattle.job.proofs.Passed.{passed}
use Rattle.job.proofs.Rows.{fits_of_pass}
use Rattle.timeline.specs.declared.Plan.{Plan}
use Rattle.timeline.specs.Step.{Step, steps_in}
use Rattle.timeline.specs.Accepted.{step_rows, Accepted}
use Rattle.timeline.specs.Places.{EachStep}
use Rattle.timeline.specs.Value.{step_at, steps_of}
use Rattle.timeline.specs.TrueLengths.{with_lengths, outside_range, wrong_lengths}
use Rattle.timeline.proofs.AcceptedSteps.{accepted_steps}
use Rattle.timeline.proofs.JobSteps.{steps_in_bytes, steps_of_accepted}
use Rattle.timeline.proofs.Places.{each_of_steps}
use Rattle.timeline.proofs.PlanValues.{each_of_plan}
use Rattle.timeline.proofs.TrueLengths.{true_lengths_pass}
use Rattle.checker.specs.Check.{Valid, Decodes, SmallPeaks}
use Rattle.checker.proofs.PeakLaws.{small_peaks_of_pass}
use Rattle.true_day.specs.Inner.{Own, Ends}
use Rattle.true_day.proofs.ByPlace.{right_number, wrong_by_place}

module _ (job : held.Job) (goal : ℕ) (bytes : List ℕ) (plan : Plan) (valid : Valid job)
    (accepted : Accepted (job_in job) goal bytes) (decodes : Decodes job bytes plan) where
  abbrev J : Job
  J = job_in job

  of_plan : (F : Step → Type 0) → EachStep F (steps_in J bytes) → (i : ℕ) → i < plan.length → F (step_at plan i)
  of_plan F each = each_of_plan F plan (rw decodes.steps (each_of_steps F (steps_in J bytes) each))

  pub own_plan : Own job plan
  own_plan =
      let keeps = accepted_steps J goal (steps_in J bytes) (steps_of_accepted J goal bytes accepted) in
      let count = length_tabulate job.counts.actions (action_at job) in
      record {
        fits = fits_of_pass job valid;
        few = decodes.few;
        counts = decodes.counts;
        known = λ i l. let n = of_plan (λ x. x.number < length J.actions) keeps.known i l in omega arith;
        longest = of_plan (λ x. x.action.duration ≡ longest_of J x.number)
            (λ x Q i. ap (λ (y : Step). y.action.duration) (steps_in_bytes J bytes x Q i));
      }

  module _ (lengths : List ℕ) (right : wrong_lengths J (steps_of plan) lengths ≡ false) where
    pub one_for_each : plan.length ≡ length lengths
    one_for_each =
        let n = right_number J (steps_of plan) lengths right in
        let m = length_tabulate plan.length (step_at plan) in
        omega arith

    -- a step stops no later than planned, and so by the deadline
    pub in_bits : Ends plan lengths
    in_bits i l =
        let x = step_at plan i in
        let n = get_or lengths i 0 in
        let e = one_for_each in
        let by_place = sym (wrong_by_place J plan.length (step_at plan) lengths (omega arith)) ∙ right in
        let range = below_none plan.length (λ k. outside_range J (step_at plan k) (get_or lengths k 0)) by_place i l in
        let most = ltb-false x.action.duration n (or_right (ltb n (shortest_of J x.number)) _ range) in
        let keeps = accepted_steps J goal (steps_in J bytes) (steps_of_accepted J goal bytes accepted) in
        let soon = of_plan (λ y. y.stop ≤ J.deadline) keeps.before_deadline i l in
        let stop = of_plan (λ y. y.stop ≡ y.start + longest_of J y.number)
        (λ y Q k. ap (λ (z : Step). z.stop) (steps_in_bytes J bytes y Q k)) i l in
        let longest = own_plan.longest i l in
        let deadline = (passed J valid).deadline in
        omega arith

    -- the plan with the true lengths passes the checker, so its peaks are within the pools
    pub small_true_peaks : (run : Plan) → steps_of run ≡ with_lengths (steps_of plan) lengths → SmallPeaks job run
    small_true_peaks run runs =
        let same : steps_of run ≡ with_lengths (steps_in J bytes) lengths =
        runs ∙ ap (λ (P : List Step). with_lengths P lengths) decodes.steps in
        let pass = (true_lengths_pass J goal bytes lengths (passed J valid) accepted (rw decodes.steps at right)).0 in
        small_peaks_of_pass job run goal (passed J valid)
        (ap (λ (P : List Step). first (step_rows J goal P)) same ∙ pass)
