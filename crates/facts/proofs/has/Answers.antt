-- `facts::has` meets its contract: a word has no fact from 64 on, below that the shift tells.
use mathlib.Core.Path.{sym}
use native.Mathlib.Omega.{arith}
use Rattle.facts.proofs.Membership.{has_by_shift, word_within}
use Rattle.facts.proofs.has.Goals as goal

pub returns-then-n-ge-BITS : goal.returns-then-n-ge-BITS
returns-then-n-ge-BITS c = sym (word_within c.args.set (omega arith) c.args.n (omega arith))

pub returns : goal.returns
returns c = sym (has_by_shift c.args.set c.args.n)
