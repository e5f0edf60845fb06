-- `join` meets its contract: a refusal for each row of its table, or the joined plan.
use Rattle.std.proofs.Common.{rules, Ok, Err, ◌≡◌, refl, sym, ap, ◌∙◌}
use mathlib.Core.Bool.{false}
use borrow.Author.Tests.{ltb-false}
use Rattle.lists.proofs.Bools.{or_left}
use Rattle.job.specs.Job.{job_in}
use Rattle.job.specs.Valid.{over}
use Rattle.job.proofs.Passed.{passed}
use Rattle.job.proofs.Rows.{fits_of_pass}
use Rattle.joining.proofs.CheckedPlans.{shape_refused, shape_passes, shape_ends, shape_few, minutes_small}
use Rattle.joining.proofs.CheckedPlans.{joined_written, joined_told, long_told, room_for_both}
use Rattle.joining.proofs.JoinedShape.{whole_steps}
use Rattle.joining.proofs.WaysOut.{joins_refused_job, joins_refused_first, joins_refused_second}
use Rattle.joining.proofs.WaysOut.{joins_short_slice, joins_too_long, joins_day}
use native.Mathlib.Omega.{arith}
use Rattle.joining.proofs.join.Goals as goal

pub returns-in_err-validate : goal.returns-in_err-validate
returns-in_err-validate c =
    let e : c.from_residual.result ≡ Err c.in_err-validate.field-0.0 = search rules in
    joins_refused_job (job_in c.args.job) c.args.first.now c.args.second.now c.args.out.now _ _ e
    (sym c.validate.ensures ∙ c.in_err-validate.was)

pub returns-in_err-morning : goal.returns-in_err-morning
returns-in_err-morning c =
    let e : c.from_residual-in_err-morning.result ≡ Err c.in_err-morning.field-0.0 = search rules in
    let J = job_in c.args.job in
    let valid = sym c.validate.ensures ∙ c.in_ok-validate.was in
    joins_refused_first J c.args.first.now c.args.second.now c.args.out.now _ valid _ e
    (shape_refused J c.args.first.now _ (sym c.in_err-morning.was ∙ c.check_shape.ensures))

pub returns-in_err-afternoon : goal.returns-in_err-afternoon
returns-in_err-afternoon c =
    let e : c.from_residual-in_err-afternoon.result ≡ Err c.in_err-afternoon.field-0.0 = search rules in
    let J = job_in c.args.job in
    let valid = sym c.validate.ensures ∙ c.in_ok-validate.was in
    let pa = shape_passes J c.args.first.now _ (sym c.in_ok-morning.was ∙ c.check_shape.ensures) in
    joins_refused_second J c.args.first.now c.args.second.now c.args.out.now _ valid pa _ e
    (shape_refused J c.args.second.now _ (sym c.in_err-afternoon.was ∙ c.check_shape-2.ensures))

pub returns-then-out-lt-BYTES : goal.returns-then-out-lt-BYTES
returns-then-out-lt-BYTES c =
    let J = job_in c.args.job in
    let valid = sym c.validate.ensures ∙ c.in_ok-validate.was in
    let pa = shape_passes J c.args.first.now _ (sym c.in_ok-morning.was ∙ c.check_shape.ensures) in
    let pb = shape_passes J c.args.second.now _ (sym c.in_ok-afternoon.was ∙ c.check_shape-2.ensures) in
    joins_short_slice J c.args.first.now c.args.second.now c.args.out.now _ valid pa pb refl c.if-out-lt-BYTES.true

pub starts_at-minutes-requires : goal.starts_at-minutes-requires
starts_at-minutes-requires c =
    let valid = sym c.validate.ensures ∙ c.in_ok-validate.was in
    let J = job_in c.args.job in (
      fits_of_pass c.args.job valid,
      shape_ends J c.args.first.now _ (sym c.in_ok-morning.was ∙ c.check_shape.ensures) (passed J valid),
    )

pub both-day-requires : goal.both-day-requires
both-day-requires c =
    let valid = sym c.validate.ensures ∙ c.in_ok-validate.was in
    let J = job_in c.args.job in
    let a = c.args.first.now in
    let b = c.args.second.now in
    let x = sym c.in_ok-morning.was ∙ c.check_shape.ensures in
    let y = sym c.in_ok-afternoon.was ∙ c.check_shape-2.ensures in
    let day = c.in_ok-afternoon.afternoon in (
      minutes_small J a b _ day day _ (passed J valid) x y c.starts_at-minutes.ensures,
      shape_ends J b _ y (passed J valid),
      shape_few J a _ x,
      shape_few J b _ y,
    )

pub returns-then-too_long : goal.returns-then-too_long
returns-then-too_long c =
    let valid = sym c.validate.ensures ∙ c.in_ok-validate.was in
    let J = job_in c.args.job in
    let a = c.args.first.now in
    let b = c.args.second.now in
    let x = sym c.in_ok-morning.was ∙ c.check_shape.ensures in
    let y = sym c.in_ok-afternoon.was ∙ c.check_shape-2.ensures in
    let long = long_told J a b _ _ c.both-day.result _ (passed J valid) x y c.starts_at-minutes.ensures
    c.both-day.ensures _ _ c.too_long.ensures c.if-too_long.true in
    joins_too_long J a b c.args.out.now _ valid (shape_passes J a _ x) (shape_passes J b _ y) c.if-out-lt-BYTES.false
    refl long

pub write_both-requires : goal.write_both-requires
write_both-requires c =
    let valid = sym c.validate.ensures ∙ c.in_ok-validate.was in
    let J = job_in c.args.job in
    let a = c.args.first.now in
    let b = c.args.second.now in
    let x = sym c.in_ok-morning.was ∙ c.check_shape.ensures in
    let y = sym c.in_ok-afternoon.was ∙ c.check_shape-2.ensures in
    let short : (over 32 c.both-day.result.steps) ≡ false = or_left _ _
    (sym c.too_long.ensures ∙ c.if-too_long.false) in
    let few = ltb-false 32 c.both-day.result.steps short in
    let room = room_for_both J a b _ _ c.both-day.result _ (passed J valid) x y c.starts_at-minutes.ensures
    c.both-day.ensures few in
    let enough = c.if-out-lt-BYTES.false in
    (whole_steps J a (shape_passes J a _ x), omega arith)

pub returns : goal.returns
returns c =
    let valid = sym c.validate.ensures ∙ c.in_ok-validate.was in
    let J = job_in c.args.job in
    let a = c.args.first.now in
    let b = c.args.second.now in
    let x = sym c.in_ok-morning.was ∙ c.check_shape.ensures in
    let y = sym c.in_ok-afternoon.was ∙ c.check_shape-2.ensures in
    let d = c.both-day.result in
    let long = long_told J a b _ _ d _ (passed J valid) x y c.starts_at-minutes.ensures c.both-day.ensures _ _
    c.too_long.ensures c.if-too_long.false in
    let told = joined_told J a b _ _ d _ (passed J valid) x y c.starts_at-minutes.ensures c.both-day.ensures in
    let bytes = joined_written J a b _ _ d _ (passed J valid) x y c.starts_at-minutes.ensures _ _ c.write_both.ensures in
    joins_day J a b c.args.out.now _ valid (shape_passes J a _ x) (shape_passes J b _ y) c.if-out-lt-BYTES.false _ long
    (ap Ok told) bytes
