-- `earliest` meets its contract: the tests of the job and of the set, then the time by the filled table.
use Rattle.std.proofs.Common.{rules, Ok, Err, ◌≡◌, ap, refl, sym, ◌∙◌}
use Rattle.job.specs.Job.{job_in}
use Rattle.job.proofs.Passed.{passed}
use Rattle.earliest.proofs.AnswerLaws.{answers_refused_job, answers_foreign, answers_time}
use Rattle.earliest.proofs.WithExtra.{fits_with_no_extra, filled_with_no_extra}
use Rattle.earliest.proofs.earliest.Goals as goal

pub returns-in_err-validate : goal.returns-in_err-validate
returns-in_err-validate c =
    let e : c.from_residual.result ≡ Err c.in_err-validate.field-0.0 = search rules in
    rw e (answers_refused_job (job_in c.args.job) c.args.set _ (sym c.validate.ensures ∙ c.in_err-validate.was))

pub returns-then-foreign : goal.returns-then-foreign
returns-then-foreign c =
    let pass = sym c.validate.ensures ∙ c.in_ok-validate.was in
    answers_foreign (job_in c.args.job) c.args.set pass (sym c.foreign.ensures.0 ∙ c.if-foreign.true)

pub fill-requires : goal.fill-requires
fill-requires c =
    let pass = sym c.validate.ensures ∙ c.in_ok-validate.was in
    (refl, fits_with_no_extra c.args.job _ c.none.ensures pass)

pub set_time-requires : goal.set_time-requires
set_time-requires c =
    let pass = sym c.validate.ensures ∙ c.in_ok-validate.was in
    (c.fill.ensures.able.kept.whole, (passed (job_in c.args.job) pass).facts)

pub returns : goal.returns
returns c =
    let pass = sym c.validate.ensures ∙ c.in_ok-validate.was in
    answers_time (job_in c.args.job) c.args.set pass (sym c.foreign.ensures.0 ∙ c.if-foreign.false)
    _ (filled_with_no_extra c.args.job _ _ c.none.ensures c.fill.ensures) _ c.set_time.ensures _
    (ap Ok c.answer.ensures)
