-- `step` meets its contract: the action at its place is the job's action of that number.
use Rattle.lists.proofs.Tabulate.{get_d_tabulate}
use Rattle.job.specs.Job.{action_at, no_action}
use Rattle.checker.proofs.decode.step.Goals as goal

pub returns : goal.returns
returns c =
    let j = c.args.job in
    rw (get_d_tabulate j.counts.actions (action_at j) c.args.number no_action c.requires.1) (simp c.from.ensures)
