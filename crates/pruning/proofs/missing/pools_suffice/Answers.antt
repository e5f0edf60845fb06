-- `pools_suffice` meets its contract: the pool that does not makes a dead end.
use Prim.Native.Nat.{ℕ, ◌+◌, ◌*◌, ◌-◌}
use mathlib.Core.Path.{sym, ap, ap₂, ◌∙◌}
use lib.ListN.{get_or}
use Rattle.pruning.specs.Missing.{fits}
use Rattle.pruning.proofs.MissingLaws.{dead_when_pool_exceeded}
use native.Mathlib.Omega.{arith}
use Rattle.pruning.proofs.missing.pools_suffice.Goals as goal

pub returns-then-not-fits : goal.returns-then-not-fits
returns-then-not-fits c =
    let h = c.requires in
    let at = c.args in
    let t = c.from-t.ensures in
    let from = c.opening-from.ensures in
    let k = c.loop-k.k in
    λ sets missing e J described marked keeps stands.
    dead_when_pool_exceeded J sets at.numbers.now at.frame described marked at.st keeps stands h.3 h.4
    k at.missing c.used-used.result (omega arith) (omega arith) missing
    (λ J sets described inside. rw (t, from) at (c.used-used.ensures.0 J sets described inside))
    (ap₂ (λ (m s : ℕ). fits at.numbers.now (4 + k) at.missing c.used-used.result
    (get_or at.frame.available k 0 * (m - s))) (sym t) (sym from)
    ∙ ap (fits at.numbers.now (4 + k) at.missing c.used-used.result) (sym c.supply-most.ensures.0)
    ∙ sym c.fits.ensures ∙ c.if-not-fits.true)
