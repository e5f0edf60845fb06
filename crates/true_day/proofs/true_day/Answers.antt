-- `true_day` meets its contract: the tests of the job, of the plan and of the lengths, then the day as it was.
use Rattle.std.proofs.Common.{rules, Ok, Err, ◌≡◌, refl, sym, ap, ◌∙◌}
use mathlib.Core.List.{List}
use Rattle.lists.proofs.Tabulate.{length_tabulate}
use Rattle.job.specs.Job.{job_in}
use Rattle.job.proofs.Rows.{limits_of_pass, fits_of_pass}
use Rattle.timeline.specs.Step.{Step}
use Rattle.timeline.specs.TrueLengths.{with_lengths, wrong_lengths}
use Rattle.timeline.specs.Value.{step_at, steps_of}
use Rattle.timeline.proofs.DayLaws.{verdict_of_day}
use Rattle.true_day.specs.TrueDay.{true_steps}
use Rattle.true_day.proofs.AcceptedPlan.{own_plan, one_for_each, in_bits, small_true_peaks}
use Rattle.true_day.proofs.WaysOut.{tells_refused_job, tells_refused_plan, tells_wrong_lengths, tells_day}
use Rattle.true_day.proofs.WaysOut.{told_of_steps}
use native.Mathlib.Omega.{arith}
use Rattle.true_day.proofs.true_day.Goals as goal

pub returns-in_err-validate : goal.returns-in_err-validate
returns-in_err-validate c =
    let e : c.from_residual.result ≡ Err c.in_err-validate.field-0.0 = search rules in
    tells_refused_job (job_in c.args.job) c.args.plan.now c.args.lengths.now _ _ e
    (sym c.validate.ensures ∙ c.in_err-validate.was)

pub checked_plan-requires : goal.checked_plan-requires
checked_plan-requires c = limits_of_pass _ (sym c.validate.ensures ∙ c.in_ok-validate.was)

pub returns-in_err-checked : goal.returns-in_err-checked
returns-in_err-checked c =
    let e : c.from_residual-in_err-checked.result ≡ Err c.in_err-checked.field-0.0 = search rules in
    let valid = sym c.validate.ensures ∙ c.in_ok-validate.was in
    let day = verdict_of_day _ _ _ _ (rw c.in_err-checked.was at c.checked_plan.ensures.day) in
    tells_refused_plan (job_in c.args.job) c.args.plan.now c.args.lengths.now _ valid _ e (sym day)

pub wrong_lengths-requires : goal.wrong_lengths-requires
wrong_lengths-requires c =
    let valid = sym c.validate.ensures ∙ c.in_ok-validate.was in
    let accepted = sym (verdict_of_day _ _ _ _ (rw c.in_ok-checked.was at c.checked_plan.ensures.day)) in
    own_plan c.args.job c.args.job.goal c.args.plan.now _ valid accepted
    (c.checked_plan.ensures.plan _ c.in_ok-checked.was)

pub returns-then-wrong_lengths : goal.returns-then-wrong_lengths
returns-then-wrong_lengths c =
    let J = job_in c.args.job in
    let valid = sym c.validate.ensures ∙ c.in_ok-validate.was in
    let accepted = sym (verdict_of_day _ _ _ _ (rw c.in_ok-checked.was at c.checked_plan.ensures.day)) in
    let decodes = c.checked_plan.ensures.plan _ c.in_ok-checked.was in
    let lengths = c.args.lengths.now in
    tells_wrong_lengths J c.args.plan.now lengths _ valid accepted refl
    (sym (ap (λ (P : List Step). wrong_lengths J P lengths) decodes.steps)
    ∙ sym c.wrong_lengths.ensures
    ∙ c.if-wrong_lengths.true)

pub with_lengths-run-requires : goal.with_lengths-run-requires
with_lengths-run-requires c =
    let job = c.args.job in
    let valid = sym c.validate.ensures ∙ c.in_ok-validate.was in
    let accepted = sym (verdict_of_day _ _ _ _ (rw c.in_ok-checked.was at c.checked_plan.ensures.day)) in
    let decodes = c.checked_plan.ensures.plan _ c.in_ok-checked.was in
    let right = sym c.wrong_lengths.ensures ∙ c.if-wrong_lengths.false in
    let bytes = c.args.plan.now in
    let lengths = c.args.lengths.now in (
      decodes.few,
      one_for_each job job.goal bytes _ valid accepted decodes lengths right,
      in_bits job job.goal bytes _ valid accepted decodes lengths right,
    )

pub peaks-requires : goal.peaks-requires
peaks-requires c =
    let job = c.args.job in
    let valid = sym c.validate.ensures ∙ c.in_ok-validate.was in
    let accepted = sym (verdict_of_day _ _ _ _ (rw c.in_ok-checked.was at c.checked_plan.ensures.day)) in
    let decodes = c.checked_plan.ensures.plan _ c.in_ok-checked.was in
    let few = decodes.few in
    let run = c.with_lengths-run.ensures in
    let same = run.0 in
    let right = sym c.wrong_lengths.ensures ∙ c.if-wrong_lengths.false in (
      omega arith,
      run.1 ∙ decodes.counts,
      fits_of_pass job valid,
      small_true_peaks job job.goal c.args.plan.now _ valid accepted decodes
          c.args.lengths.now right c.with_lengths-run.result run.2,
    )

pub returns : goal.returns
returns c =
    let J = job_in c.args.job in
    let bytes = c.args.plan.now in
    let lengths = c.args.lengths.now in
    let valid = sym c.validate.ensures ∙ c.in_ok-validate.was in
    let accepted = sym (verdict_of_day _ _ _ _ (rw c.in_ok-checked.was at c.checked_plan.ensures.day)) in
    let decodes = c.checked_plan.ensures.plan _ c.in_ok-checked.was in
    let right = sym (ap (λ (P : List Step). wrong_lengths J P lengths) decodes.steps)
    ∙ sym c.wrong_lengths.ensures
    ∙ c.if-wrong_lengths.false in
    let run = c.with_lengths-run.result in
    let steps = c.with_lengths-run.ensures.2 ∙ ap (λ (P : List Step). with_lengths P lengths) decodes.steps in
    tells_day J bytes lengths _ valid accepted right
    (ap Ok (told_of_steps J (true_steps J bytes lengths) (steps_of run) _ _ _ steps c.end.ensures
    (sym (length_tabulate run.length (step_at run))) c.peaks.ensures))
