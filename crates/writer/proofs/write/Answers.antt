-- `write` meets its contract: three ways out.
use Rattle.std.proofs.Common.{rules, ◌≡◌, Err, sym, ◌∙◌}
use Rattle.job.specs.Job.{job_in}
use Rattle.job.proofs.Rows.{fits_of_pass}
use Rattle.writer.proofs.AnswerLaws.{wrote_refused, wrote_short, wrote_file}
use Rattle.writer.proofs.LayoutLaws.{end_is_length}
use native.Mathlib.Omega.{arith}
use Rattle.writer.proofs.write.Goals as goal

pub returns-in_err-validate : goal.returns-in_err-validate
returns-in_err-validate c =
    let why = c.in_err-validate.field-0.0 in
    let same : c.from_residual.result ≡ Err why = search rules in
    rw same (wrote_refused (job_in c.args.job) c.args.out.now why (sym c.validate.ensures ∙ c.in_err-validate.was))

pub layout-layout-requires : goal.layout-layout-requires
layout-layout-requires c =
    fits_of_pass c.args.job (sym c.validate.ensures ∙ c.in_ok-validate.was)

pub returns-then-out-places : goal.returns-then-out-places
returns-then-out-places c =
    let e = end_is_length c.args.job _ _ c.layout-layout.ensures.0 c.places-places.ensures in
    let p = sym c.validate.ensures ∙ c.in_ok-validate.was in
    wrote_short (job_in c.args.job) c.args.out.now p (omega arith)

pub file-requires : goal.file-requires
file-requires c =
    let fits = fits_of_pass c.args.job (sym c.validate.ensures ∙ c.in_ok-validate.was) in
    let room = c.if-out-places.false in
    (fits, record { lengths = c.layout-layout.ensures.0; places = c.places-places.ensures; inside = omega arith })

pub returns : goal.returns
returns c =
    let e = end_is_length c.args.job _ _ c.layout-layout.ensures.0 c.places-places.ensures in
    let room = c.if-out-places.false in
    let p = sym c.validate.ensures ∙ c.in_ok-validate.was in
    rw (c.file.ensures, e) (wrote_file (job_in c.args.job) c.args.out.now p (omega arith))
