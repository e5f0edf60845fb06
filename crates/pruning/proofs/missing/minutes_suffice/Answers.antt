-- `minutes_suffice` meets its contract: a clique that takes too long makes a dead end.
use borrow.Author.Tests.{leb-false}
use Rattle.pruning.proofs.MissingLaws.{dead_when_minutes_exceeded}
use native.Mathlib.Omega.{arith}
use Rattle.pruning.proofs.missing.minutes_suffice.Goals as goal

pub returns : goal.returns
returns c =
    λ missing e J described marked keeps stands.
    let at = c.args in
    let h = c.requires in
    let more = leb-false c.minutes-minutes.result c.from.result e in
    dead_when_minutes_exceeded J at.sets.now at.numbers.now at.frame described marked at.st keeps stands
    h.3 h.2 at.missing c.minutes-minutes.result missing c.minutes-minutes.ensures (omega arith)
