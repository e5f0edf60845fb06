-- `with_kept` meets its contract: the kept steps alone, too late for others, or what the search finds.
use native.Mathlib.Omega.{arith}
use Rattle.job.specs.Job.{job_in}
use Rattle.job.proofs.Passed.{passed}
use Rattle.solver.proofs.TaskDays.{begun_day_fits, begun_day_solved}
use Rattle.replanner.proofs.Alone.{replanned_alone, replanned_late, replanned_solved}
use Rattle.job.proofs.Rows.{limits_of_pass}
use Rattle.replanner.proofs.with_kept.Goals as goal

pub as_plan-requires : goal.as_plan-requires
as_plan-requires c = c.requires.2.known.few

pub returns-in-Some : goal.returns-in-Some
returns-in-Some c =
    replanned_alone (job_in c.args.job) c.args.goal c.args.minute c.args.kept c.requires.0 c.requires.1 c.requires.2
    c.as_plan.result c.as_plan.ensures _ c.in-Some.is

pub returns-then-from-minute : goal.returns-then-from-minute
returns-then-from-minute c =
    replanned_late (job_in c.args.job) c.args.goal c.args.minute c.args.kept c.requires.0 c.requires.1 c.requires.2 c.as_plan.result c.as_plan.ensures c.in_default.is (rw c.from.ensures at c.if-from-minute.true)

pub overflow_cast-minute : goal.overflow_cast-minute
overflow_cast-minute c =
    let day = (passed (job_in c.args.job) c.requires.0).deadline in let early = (rw c.from.ensures at c.if-from-minute.false) in omega arith

pub solve-requires : goal.solve-requires
solve-requires c =
    let day = (passed (job_in c.args.job) c.requires.0).deadline in
    let early = (rw c.from.ensures at c.if-from-minute.false) in
    let fit = c.requires.2 in (
      c.requires.0,
      begun_day_fits c.args.job c.args.goal c.args.minute c.args.kept _ c.begun.ensures
          (record { passes = limits_of_pass _ c.requires.0; goal = c.requires.1; known = fit.known; early = fit.early; rising = fit.rising; minute = omega arith }),
    )

pub returns : goal.returns
returns c =
    replanned_solved (job_in c.args.job) c.args.goal c.args.minute c.args.kept c.requires.0 c.requires.1 c.requires.2 c.as_plan.result c.as_plan.ensures c.in_default.is _ (begun_day_solved c.args.job c.args.goal c.args.minute c.args.kept _ c.begun.ensures c.solve.result c.solve.ensures)
