-- `read` meets its contract: a way out for each refusal of the file, one for those of the job, and the job.
use Rattle.std.proofs.Common.{rules, ◌≡◌, Err, sym, ◌∙◌}
use Rattle.jobfile.specs.Answers.{read_file}
use Rattle.jobfile.proofs.ReadLaws.{read_wrong_size, read_offsets, read_body_sizes, read_refused, read_passed}
use Rattle.jobfile.proofs.ReadLaws.{reads_of_answer}
use Rattle.reader.proofs.ContentsLaws.{has_contents, has_offset, placed}
use Rattle.reader.proofs.read.Goals as goal

pub returns-then-wrong_size : goal.returns-then-wrong_size
returns-then-wrong_size c =
    reads_of_answer _ _ (sym (read_wrong_size c.args.file.now (sym c.wrong_size.ensures ∙ c.if-wrong_size.true)))

pub form_in-form-requires : goal.form_in-form-requires
form_in-form-requires c =
    has_offset c.args.file.now (sym c.wrong_size.ensures ∙ c.if-wrong_size.false)

pub in_order-requires : goal.in_order-requires
in_order-requires c =
    let has = has_contents c.args.file.now (sym c.wrong_size.ensures ∙ c.if-wrong_size.false) in
    (c.form_in-form.ensures, rw c.form_in-form.ensures has)

pub returns-then-not-in_order : goal.returns-then-not-in_order
returns-then-not-in_order c =
    let file = c.args.file.now in
    let t1 = sym c.wrong_size.ensures ∙ c.if-wrong_size.false in
    reads_of_answer _ _ (sym (read_offsets file t1 (sym c.in_order.ensures ∙ c.if-not-in_order.true)))

pub layout-layout-requires : goal.layout-layout-requires
layout-layout-requires c =
    let has = has_contents c.args.file.now (sym c.wrong_size.ensures ∙ c.if-wrong_size.false) in
    (c.form_in-form.ensures, rw c.form_in-form.ensures has)

pub returns-then-missized : goal.returns-then-missized
returns-then-missized c =
    let file = c.args.file.now in
    let t1 = sym c.wrong_size.ensures ∙ c.if-wrong_size.false in
    let t2 = sym c.in_order.ensures ∙ c.if-not-in_order.false in
    let t3 = rw c.layout-layout.ensures.0 at (sym c.missized.ensures ∙ c.if-missized.true) in
    reads_of_answer _ _ (sym (read_body_sizes file t1 t2 t3))

pub job_in-job-requires : goal.job_in-job-requires
job_in-job-requires c =
    let file = c.args.file.now in
    let t2 = sym c.in_order.ensures ∙ c.if-not-in_order.false in
    let layout = c.layout-layout.ensures in
    (placed file _ t2 layout.0 (sym c.missized.ensures ∙ c.if-missized.false), layout.1)

pub returns-in_err-validate : goal.returns-in_err-validate
returns-in_err-validate c =
    let file = c.args.file.now in
    let t1 = sym c.wrong_size.ensures ∙ c.if-wrong_size.false in
    let t2 = sym c.in_order.ensures ∙ c.if-not-in_order.false in
    let t3 = rw c.layout-layout.ensures.0 at (sym c.missized.ensures ∙ c.if-missized.false) in
    let why = c.in_err-validate.field-0.0 in
    let read : read_file file ≡ Err why
    = read_refused file t1 t2 t3 c.job_in-job.result c.job_in-job.ensures why (sym c.validate.ensures ∙ c.in_err-validate.was) in
    reads_of_answer _ _ (search rules)

pub returns : goal.returns
returns c =
    let file = c.args.file.now in
    let t1 = sym c.wrong_size.ensures ∙ c.if-wrong_size.false in
    let t2 = sym c.in_order.ensures ∙ c.if-not-in_order.false in
    let t3 = rw c.layout-layout.ensures.0 at (sym c.missized.ensures ∙ c.if-missized.false) in
    let v = sym c.validate.ensures ∙ c.in_ok-validate.was in
    reads_of_answer _ _ (sym (read_passed file t1 t2 t3 c.job_in-job.result c.job_in-job.ensures v))
