-- `beside` meets its contract: in the step's last minute there is a clash, or in that of a share a pool does not suffice.
use mathlib.Core.Path.{sym, ◌∙◌}
use lib.Dec.{ltb}
use borrow.Author.Tests.{ltb-true}
use Rattle.lists.proofs.Bools.{and_left, and_right}
use Rattle.states.proofs.BesideLaws.{barred_beside_clashing, barred_beside_exceeded}
use native.Mathlib.Omega.{arith}
use Prim.Native.Nat.{◌+◌}
use Rattle.tables.specs.Tables.{duration_at}
use Rattle.states.proofs.beside.beside.Goals as goal

pub returns-then-minute-last : goal.returns-then-minute-last
returns-then-minute-last c =
    λ e J described stands fits.
    let h = c.requires in
    let at = c.args in
    let w = c.wide-minute.ensures.0 in
    let before = c.if-minute-stop.false in
    let both = c.if-minute-last.true in
    let after = ltb-true c.wide-minute.result (c.stop-stop.result + duration_at at.numbers.now at.i) (and_left _ _ both) in
    barred_beside_clashing J at.sets.now _ at.frame described at.st h.0.known stands at.i h.1
    fits at.k h.2 _ c.stop-stop.ensures.0 (omega arith) (omega arith)
    (sym c.has.ensures ∙ and_right (ltb c.wide-minute.result (c.stop-stop.result + duration_at at.numbers.now at.i)) _ both)

pub returns : goal.returns
returns c =
    λ e J described stands fits.
    let h = c.requires in
    let at = c.args in
    let w = c.wide-minute.ensures.0 in
    let before = c.if-minute-stop.false in
    barred_beside_exceeded J at.sets.now _ at.frame described at.st h.0.known stands at.i h.1
    fits at.k h.2 _ c.stop-stop.ensures.0 (omega arith) h.0.pools _
    (c.look-uses.ensures.looks J at.sets.now described.each described.handovers)
    (rw w at (c.enough.ensures e))
