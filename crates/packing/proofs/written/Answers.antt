-- `written` meets its contract: a way out for each kind of answer.
use mathlib.Core.Path.{sym, ap, ◌∙◌}
use Rattle.packing.specs.Answer.{written_number}
use native.Mathlib.Omega.{arith}
use Rattle.packing.proofs.written.Goals as goal

pub overflow_cast-length : goal.overflow_cast-length
overflow_cast-length c =
    let short = c.requires _ c.in-Ok.is in
    record { fits = omega arith }

pub returns-in-Ok : goal.returns-in-Ok
returns-in-Ok c = c.pack.ensures ∙ sym (ap written_number c.in-Ok.is)

pub returns-in-Err : goal.returns-in-Err
returns-in-Err c = c.refused.ensures ∙ sym (ap written_number c.in-Err.is)
