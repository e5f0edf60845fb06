-- `movable` meets its contract: what is true of it is that nothing blocks the action.
use mathlib.Core.Path.{sym, ◌∙◌}
use borrow.Author.Tests.{not-true}
use Rattle.tables.specs.Tables.{chosen}
use Rattle.states.proofs.AmountLaws.{exceeds_as_pools}
use Rattle.states.proofs.BarredActions.{barred_when_free}
use native.Mathlib.Omega.{arith}
use Rattle.states.proofs.rules.movable.Goals as goal

pub returns : goal.returns
returns c =
    λ e J described stands fits.
    let h = c.requires in
    let at = c.args in
    let safe = h.0 in
    let room = sym (exceeds_as_pools J at.sets.now _ at.frame described (chosen J at.st.steps) at.i h.1
    safe.pools at.st.minute at.st.uses.now stands.uses.now)
    ∙ sym c.exceeds.ensures ∙ not-true c.exceeds.result e in
    barred_when_free J at.sets.now _ at.frame described at.st safe.known stands at.i h.1 fits
    (sym c.meets.ensures.0 ∙ c.if-meets.false) (sym c.meets-2.ensures.0 ∙ c.if-meets-2.false) (omega arith) room
