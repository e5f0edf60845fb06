-- `search` ends. It calls itself with fewer undecided actions, or with a minute less and any number of them that 64 bits
-- hold, so the measure is the minutes left times 2^64 plus the undecided actions.
use Rattle.std.proofs.Common.{◌+◌, ◌*◌}
use Rattle.second.proofs.+search.Given as goal

abbrev pub decreases-search : goal.decreases-search
decreases-search l = l.left * 18446744073709551616 + l.undecided
