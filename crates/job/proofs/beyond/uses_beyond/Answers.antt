-- `uses_beyond` meets its contract: pools, then stores.
use mathlib.Core.Path.{ap₂, ◌∙◌}
use mathlib.Core.Bool.{◌||◌}
use Rattle.job.proofs.BeyondLaws.{beyond_is}
use Rattle.job.proofs.beyond.uses_beyond.Goals as goal

pub returns : goal.returns
returns c =
    let c-args = c.args in
    let c-pre = c.requires in
    let c-allowed = c.allowed-allowed in
    let c-charged = c.charged-charged in
    let c-widened = c.widened in
    let c-widened2 = c.widened-2 in
    ap₂ ◌||◌ (rw (c-widened.ensures, c-widened2.ensures) at c.any_above.ensures)
    (rw (c.widened-3.ensures, c-allowed.ensures, c-charged.ensures.0) at c.any_above-2.ensures)
    ∙ beyond_is c-args.job c-args.action (c-pre)
