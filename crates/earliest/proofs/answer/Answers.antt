-- `answer` meets its contract, by the test.
use borrow.Author.Tests.{lt-ltb, le-ltb}
use native.Mathlib.Omega.{arith}
use Rattle.earliest.proofs.answer.Goals as goal

pub returns-then-time-gt-LATEST : goal.returns-then-time-gt-LATEST
returns-then-time-gt-LATEST c = rw (lt-ltb 530400 c.args.time (omega arith))

pub returns : goal.returns
returns c = rw (le-ltb 530400 c.args.time (omega arith))
