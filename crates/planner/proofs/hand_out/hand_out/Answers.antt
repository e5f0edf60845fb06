-- `hand_out` meets its contract: no plan, or its bytes copied.
use Rattle.std.proofs.Common.{rules, ◌≡◌, ◌*◌, Err, Some, None, refl, sym, ap, ◌∙◌, take, length, ℕ, arith}
use Rattle.std.proofs.Common.{length-take-le}
use Rattle.planner.specs.Plan.{HandedOut}
use Rattle.planner.proofs.Copying.{copied_front, long_enough}
use Rattle.job.proofs.Table.{value_given, no_value_given}
use Rattle.planner.proofs.hand_out.hand_out.Goals as goal

pub returns-in_err-answer : goal.returns-in_err-answer
returns-in_err-answer c =
    let refused = no_value_given c.args.answer c.args.none _ (sym c.ok_or.ensures.value ∙ c.in_err-answer.was) in
    let e : c.from_residual.result ≡ Err c.in_err-answer.field-0.0 = search rules in
    rw refused.0 (e ∙ ap Err (sym refused.1), refl)

pub slice_bounds-copy_from_slice-end-2 : goal.slice_bounds-copy_from_slice-end-2
slice_bounds-copy_from_slice-end-2 c =
    let given = value_given c.args.answer c.args.none _ (sym c.ok_or.ensures.value ∙ c.in_ok-answer.was) in
    let whole = c.requires.0 _ given in
    let few = whole.0 in
    let room = c.requires.1 in
    let long = long_enough _ _ whole.1 in
    let n = c.in_ok-answer.answer.count * 3 in
    let mine = length-take-le n c.in_ok-answer.answer.plan (omega arith) in
    let lent = length-take-le n c.args.out.now (omega arith) in
    omega arith

pub returns : goal.returns
returns c =
    let given = value_given c.args.answer c.args.none _ (sym c.ok_or.ensures.value ∙ c.in_ok-answer.was) in
    let a = c.in_ok-answer.answer in
    let n : a.count * 3 ≡ 3 * a.count = omega arith in
    let piece = c.copy_from_slice.ensures.after ∙ ap (λ (k : ℕ). take k a.plan) n in
    rw given (refl, copied_front _ _ _ _ piece ((c.requires.0 _ given).1 ∙ sym n))
