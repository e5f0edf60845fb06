-- `reserve` meets its contract: one byte, or none.
use mathlib.Core.Path.{sym}
use Rattle.encoding.proofs.Numbers.{length_bytes}
use Rattle.encoding.proofs.Overwrite.{overwrite_none}
use native.Mathlib.Omega.{arith}
use Rattle.writer.proofs.encode.reserve.Goals as goal

pub write_number-requires : goal.write_number-requires
write_number-requires c =
    let room = rw (c.in-PerHour.is, length_bytes 1) at (c.requires) in
    omega arith

pub returns-in-PerHour : goal.returns-in-PerHour
returns-in-PerHour c =
    rw (c.write_number.ensures, c.from.ensures, c.in-PerHour.is)

pub returns-in_default : goal.returns-in_default
returns-in_default c = rw c.in_default.is (sym (overwrite_none _ _))
