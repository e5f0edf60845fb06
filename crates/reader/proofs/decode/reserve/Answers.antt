-- `reserve` meets its contract: a shorter head has no such byte.
use mathlib.Core.Path.{sym, ap}
use Rattle.encoding.specs.Bytes.{from_bytes}
use Rattle.encoding.proofs.Parts.{part_past_end}
use native.Mathlib.Omega.{arith}
use Rattle.reader.proofs.decode.reserve.Goals as goal

pub returns-then-head-lt-LONG_HEAD : goal.returns-then-head-lt-LONG_HEAD
unfolding from_bytes
returns-then-head-lt-LONG_HEAD c =
    sym (ap from_bytes (part_past_end c.args.head.now 19 1 (let short = c.if-head-lt-LONG_HEAD.true in omega arith)))
