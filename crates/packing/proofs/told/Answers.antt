-- `told` meets its contract: a way out for each kind of answer.
use mathlib.Core.Path.{sym, ap, ◌∙◌}
use Rattle.packing.specs.Answer.{time_number}
use Rattle.packing.proofs.told.Goals as goal

pub returns-in-Ok : goal.returns-in-Ok
returns-in-Ok c = c.minute_told.ensures ∙ sym (ap time_number c.in-Ok.is)

pub returns-in-Err : goal.returns-in-Err
returns-in-Err c = c.refused.ensures ∙ sym (ap time_number c.in-Err.is)
