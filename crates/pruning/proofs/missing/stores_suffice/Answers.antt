-- `stores_suffice` meets its contract: the store that does not makes a dead end.
use mathlib.Core.Path.{sym, ap, ◌∙◌}
use Rattle.pruning.specs.Missing.{fits}
use Rattle.pruning.proofs.MissingLaws.{dead_when_store_exceeded}
use native.Mathlib.Omega.{arith}
use Rattle.pruning.proofs.missing.stores_suffice.Goals as goal

pub returns-then-not-fits : goal.returns-then-not-fits
returns-then-not-fits c =
    let h = c.requires in
    let at = c.args in
    λ sets missing e J described marked keeps stands.
    dead_when_store_exceeded J sets at.numbers.now at.frame described marked at.st keeps stands
    h.3 h.4 c.loop-k.k at.missing (omega arith) (omega arith) missing
    (ap (fits at.numbers.now c.loop-k.k at.missing _) (sym c.from-stock.ensures)
    ∙ sym c.fits.ensures ∙ c.if-not-fits.true)
