-- `reached` meets its contract: the needs of the running steps come later than the start.
use native.Mathlib.Omega.{arith}
use Prim.Native.Nat.{ℕ}
use mathlib.Core.Path.{ap}
use Rattle.earliest.specs.Numbers.{set_number}
use Rattle.pruning.proofs.StateTests.{dead_when_rushed}
use Rattle.pruning.proofs.tests.reached.Goals as goal

pub returns : goal.returns
returns c =
    λ e J described timely keeps t in_time.
    let at = c.args in
    let h = c.requires.5 in
    let from = c.requires.6 in
    let rules = c.needs_at-needs.ensures J described.each in
    let same = ap (λ (set : ℕ). set_number at.times.now set at.frame.facts) rules in
    let late = c.by.ensures e in
    dead_when_rushed J at.frame at.times.now timely described.facts in_time at.steps keeps at.start
    (omega arith) (omega arith) t
