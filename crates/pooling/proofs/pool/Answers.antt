-- `pool` meets its contract: one line for each way out.
use Rattle.std.proofs.Common.{rules, Ok, Err, ◌≡◌, refl, sym, ap, ◌∙◌}
use Rattle.job.specs.Job.{job_in}
use Rattle.pooling.proofs.PoolAnswers.{first_refused, second_refused, refused_by_32, refused_by_33}
use Rattle.pooling.proofs.PoolAnswers.{refused_by_none, pools_when, both_pass, poolable}
use Rattle.pooling.proofs.pool.Goals as goal

pub returns-in_err-validate : goal.returns-in_err-validate
returns-in_err-validate c =
    let e : c.from_residual.result ≡ Err c.in_err-validate.field-0.0 = search rules in
    pools_when (job_in c.args.first) (job_in c.args.second) _ _
    (first_refused _ _ _ (sym c.validate.ensures ∙ c.in_err-validate.was)) e

pub returns-in_err-validate-2 : goal.returns-in_err-validate-2
returns-in_err-validate-2 c =
    let e : c.from_residual-in_err-validate-2.result ≡ Err c.in_err-validate-2.field-0.0 = search rules in
    let mine = sym c.validate.ensures ∙ c.in_ok-validate.was in
    pools_when (job_in c.args.first) (job_in c.args.second) _ _
    (second_refused _ _ mine _ (sym c.validate-2.ensures ∙ c.in_err-validate-2.was)) e

pub too_large-requires : goal.too_large-requires
too_large-requires c =
    both_pass c.args.first c.args.second (sym c.validate.ensures ∙ c.in_ok-validate.was)
    (sym c.validate-2.ensures ∙ c.in_ok-validate-2.was)

pub returns-then-too_large : goal.returns-then-too_large
returns-then-too_large c =
    let mine = sym c.validate.ensures ∙ c.in_ok-validate.was in
    let other = sym c.validate-2.ensures ∙ c.in_ok-validate-2.was in
    pools_when (job_in c.args.first) (job_in c.args.second) _ _
    (refused_by_32 _ _ mine other (sym c.too_large.ensures ∙ c.if-too_large.true)) refl

pub unlike-requires : goal.unlike-requires
unlike-requires c =
    both_pass c.args.first c.args.second (sym c.validate.ensures ∙ c.in_ok-validate.was)
    (sym c.validate-2.ensures ∙ c.in_ok-validate-2.was)

pub returns-then-unlike : goal.returns-then-unlike
returns-then-unlike c =
    let mine = sym c.validate.ensures ∙ c.in_ok-validate.was in
    let other = sym c.validate-2.ensures ∙ c.in_ok-validate-2.was in
    pools_when (job_in c.args.first) (job_in c.args.second) _ _
    (refused_by_33 _ _ mine other (sym c.too_large.ensures ∙ c.if-too_large.false)
    (sym c.unlike.ensures ∙ c.if-unlike.true)) refl

pub pooled_job-requires : goal.pooled_job-requires
pooled_job-requires c =
    poolable c.args.first c.args.second (sym c.validate.ensures ∙ c.in_ok-validate.was)
    (sym c.validate-2.ensures ∙ c.in_ok-validate-2.was) (sym c.too_large.ensures ∙ c.if-too_large.false)
    (sym c.unlike.ensures ∙ c.if-unlike.false)

pub returns : goal.returns
returns c =
    let mine = sym c.validate.ensures ∙ c.in_ok-validate.was in
    let other = sym c.validate-2.ensures ∙ c.in_ok-validate-2.was in
    pools_when (job_in c.args.first) (job_in c.args.second) _ _
    (refused_by_none _ _ mine other (sym c.too_large.ensures ∙ c.if-too_large.false)
    (sym c.unlike.ensures ∙ c.if-unlike.false))
    (ap Ok c.pooled_job.ensures)
