-- `decimal::decimal` reads the number of the text: from each place on it is what is read so far with the rest behind it.
use Rattle.std.proofs.Common.{◌≤◌}
use Rattle.input.proofs.Decimals.{SoFar}
use Rattle.input.proofs.decimal.decimal.Given as goal

abbrev pub invariant-loop-byte : goal.invariant-loop-byte
invariant-loop-byte l = (l.x ≤ l.most) × SoFar l.most l.text l.x l.byte-index
