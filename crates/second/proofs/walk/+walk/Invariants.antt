-- `walk` ends: a call has fewer undecided actions, or a minute less and any number of them that 64 bits hold.
use Rattle.std.proofs.Common.{◌+◌, ◌*◌}
use Rattle.second.proofs.walk.+walk.Given as goal

abbrev pub decreases-walk : goal.decreases-walk
decreases-walk l = l.left * 18446744073709551616 + l.undecided
