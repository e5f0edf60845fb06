-- `steps_suffice` meets its contract: what takes too many steps makes a dead end.
use mathlib.Core.Path.{sym, ◌∙◌}
use Rattle.pruning.proofs.MissingLaws.{dead_when_steps_exceeded}
use Rattle.pruning.proofs.missing.steps_suffice.Goals as goal

pub returns : goal.returns
returns c =
    λ sets missing e J described marked keeps stands.
    let at = c.args in
    let h = c.requires in
    dead_when_steps_exceeded J sets at.numbers.now at.frame described marked at.st keeps stands h.2 h.3
    at.missing missing (sym c.fits.ensures ∙ e)
