-- `affordable` meets its contract: a pool or a store does not suffice.
use Prim.Native.Nat.{suc, ◌-◌}
use mathlib.Core.Path.{◌≡◌, sym, ◌∙◌}
use borrow.Author.Tests.{not-false}
use Rattle.tables.specs.Tables.{chosen}
use Rattle.states.proofs.AmountLaws.{exceeds_as_pools, exceeds_as_stores}
use Rattle.states.proofs.BarredActions.{barred_when_pools_exceeded, barred_when_stores_exceeded}
use native.Mathlib.Omega.{arith}
use Rattle.states.proofs.rules.affordable.Goals as goal

pub returns-then-exceeds : goal.returns-then-exceeds
returns-then-exceeds c =
    λ e J described stands fits.
    let h = c.requires in
    let at = c.args in
    let safe = h.0 in
    let before : suc (at.st.minute - 1) ≡ at.st.minute = omega arith in
    barred_when_pools_exceeded J at.sets.now _ at.frame described at.st safe.known stands at.i h.1
    fits (at.st.minute - 1) before
    (sym (exceeds_as_pools J at.sets.now _ at.frame described (chosen J at.st.steps) at.i h.1
    safe.pools (at.st.minute - 1) at.st.uses.before (stands.uses.before _ before))
    ∙ sym c.exceeds.ensures ∙ c.if-exceeds.true)

pub returns : goal.returns
returns c =
    λ e J described stands fits.
    let h = c.requires in
    let at = c.args in
    let safe = h.0 in
    barred_when_stores_exceeded J at.sets.now _ at.frame described at.st safe.known stands at.i h.1
    fits
    (sym (exceeds_as_stores J at.sets.now _ at.frame described (chosen J at.st.steps) at.i h.1
    safe.stores at.st.minute at.st.uses stands.uses)
    ∙ sym c.exceeds-2.ensures ∙ not-false c.exceeds-2.result e)
