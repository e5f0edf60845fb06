-- `afternoon` meets its contract: the facts at the end of the plan, and what it leaves of the stores.
use mathlib.Core.Path.{ap, ◌∙◌}
use mathlib.Core.List.{List}
use Prim.Native.Nat.{ℕ}
use Rattle.timeline.specs.Timeline.{held}
use Rattle.timeline.specs.Value.{steps_of}
use Rattle.tables.specs.declared.Steps.{Steps}
use Rattle.solver.specs.declared.Task.{Task}
use Rattle.halving.proofs.AfternoonTask.{day_of_afternoon}
use Rattle.halving.proofs.afternoon.Goals as goal

abbrev as_task : ℕ → List ℕ → ℕ → Steps → Task
as_task start stocks goal kept = record { start = start; stocks = stocks; goal = goal; first = 0; kept = kept }

pub returns : goal.returns
returns c =
    let job = c.args.job in
    let plan = c.args.plan in
    let start = c.held_at-start.ensures ∙ ap (held job.start (steps_of plan)) c.end-last.ensures in
    let task : Task = record {
      start = c.held_at-start.result;
      stocks = c.left-stocks.result;
      goal = job.goal;
      first = 0;
      kept = c.none.result;
    } in
    record {
      whole = ap (λ (kept : Steps). as_task task.start task.stocks job.goal kept) c.none.ensures;
      day = day_of_afternoon job plan task start c.left-stocks.ensures;
    }
