-- `put_sets` meets its contract: four values, one after the other.
use Prim.Native.Nat.{◌*◌}
use mathlib.Core.Path.{◌∙◌}
use Rattle.tables.proofs.FillLaws.{four_values, sets_put}
use native.Mathlib.Omega.{arith}
use Rattle.tables.proofs.fill.put_sets.Goals as goal

pub returns : goal.returns
returns c =
    let h = c.requires in
    let at = c.args in
    let set = c.clash_set-clashing.result in
    let put = four_values at.sets.now (at.i * 4) _ _ _ set (omega arith) in
    (put.size ∙ h.0, sets_put at.job at.i h.2 at.sets.now _ set put c.clash_set-clashing.ensures, put.before)
