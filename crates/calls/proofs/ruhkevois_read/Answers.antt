-- `ruhkevois_read` meets its contract: the file is refused, or its length is told.
use Rattle.std.proofs.Common.{arith, sym, ◌∙◌}
use Rattle.calls.proofs.Fitting.{accepted_file_is_short}
use Rattle.calls.proofs.ruhkevois_read.Goals as goal

pub overflow_cast-file : goal.overflow_cast-file
overflow_cast-file c =
    let short = accepted_file_is_short _ _ (sym c.read.ensures.answers ∙ c.in-Ok.is) in
    record { fits = omega arith }

pub returns-in-Ok : goal.returns-in-Ok
returns-in-Ok c = rw (sym c.read.ensures.answers ∙ c.in-Ok.is) c.pack.ensures

pub returns-in-Err : goal.returns-in-Err
returns-in-Err c = rw (sym c.read.ensures.answers ∙ c.in-Err.is) c.refused.ensures
