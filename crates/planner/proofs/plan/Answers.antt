-- `plan` meets its contract: two refusals, and the answer of the search handed out.
use Rattle.std.proofs.Common.{rules, Err, ◌≡◌, refl, sym, ◌∙◌}
use mathlib.Core.List.{[]}
use Rattle.job.specs.Job.{job_in}
use Rattle.solver.proofs.TaskDays.{whole_day_fits, whole_day_solved}
use Rattle.planner.proofs.HandingOut.{whole_when_solved}
use Rattle.planner.proofs.Solving.{plans_refused, plans_short, plans_answered}
use Rattle.planner.proofs.plan.Goals as goal

pub returns-in_err-validate : goal.returns-in_err-validate
returns-in_err-validate c =
    let e : c.from_residual.result ≡ Err c.in_err-validate.field-0.0 = search rules in
    plans_refused (job_in c.args.job) c.args.out.now _ _ e (sym c.validate.ensures ∙ c.in_err-validate.was)

pub returns-then-out-lt-BYTES : goal.returns-then-out-lt-BYTES
returns-then-out-lt-BYTES c =
    let passes = sym c.validate.ensures ∙ c.in_ok-validate.was in
    plans_short (job_in c.args.job) c.args.out.now _ refl passes c.if-out-lt-BYTES.true

pub solve-answer-requires : goal.solve-answer-requires
solve-answer-requires c =
    let passes = sym c.validate.ensures ∙ c.in_ok-validate.was in
    (passes, whole_day_fits c.args.job _ c.whole_day.ensures passes)

pub hand_out-requires : goal.hand_out-requires
hand_out-requires c =
    let solved = whole_day_solved c.args.job _ c.whole_day.ensures c.solve-answer.result c.solve-answer.ensures in
    (whole_when_solved (job_in c.args.job) c.args.job.goal 0 [] c.solve-answer.result solved, c.if-out-lt-BYTES.false)

pub returns : goal.returns
returns c =
    let passes = sym c.validate.ensures ∙ c.in_ok-validate.was in
    let solved = whole_day_solved c.args.job _ c.whole_day.ensures c.solve-answer.result c.solve-answer.ensures in
    plans_answered (job_in c.args.job) c.args.out.now passes c.if-out-lt-BYTES.false c.solve-answer.result solved _ _ c.hand_out.ensures
