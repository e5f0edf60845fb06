-- `carry` meets its contract: the time of the needs with the carried fact, and the action's length after it.
use Prim.Native.Nat.{ℕ}
use mathlib.Core.Path.{◌≡◌, sym, ap, ◌∙◌}
use Rattle.facts.specs.FactSet.{has, union, single}
use Rattle.earliest.proofs.SetTimes.{same_time_as}
use Rattle.earliest.proofs.Lowers.{carried_lowers}
use Rattle.earliest.proofs.choices.carry.Goals as goal

pub returns : goal.returns
returns c =
    let lowers = c.lower_row.ensures in
    let at = c.args in
    let untouched = ap (λ (s : ℕ). has s at.q) (sym c.union.ensures.0) ∙ sym c.has.ensures ∙ c.if-has.false in
    let set : c.union-set.result ≡ union at.action.needs (single at.q) =
    c.union-set.ensures.0 ∙ ap (union at.action.needs) c.single.ensures in
    let ready = same_time_as at.table.now at.facts _ _ _ set c.set_time-ready.ensures in (
      lowers.0,
      carried_lowers at.facts _ _ _ at.action at.q _ _ untouched ready c.after.ensures.0
          c.after.ensures.1 lowers.1,
    )
