-- `joined` meets its contract: the step's numbers and sets are those of the tables.
use mathlib.Core.Path.{sym, ◌∙◌}
use Rattle.states.proofs.Looks.{step_in_tables}
use Rattle.states.proofs.minute.joined.Goals as goal

pub returns : goal.returns
returns c =
    λ J described L before.
    let at = c.args in
    let is = step_in_tables J _ _ at.i at.start described in
    c.with_step.ensures _
    (record {
      same_number = is.same_number;
      same_start = is.same_start ∙ sym c.wide.ensures.0;
      same_stop = is.same_stop ∙ sym c.stop.ensures.0;
      same_needs = is.same_needs;
      same_adds = is.same_adds;
    })
    L before
