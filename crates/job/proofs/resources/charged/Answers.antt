-- `charged` meets its contract: store by store.
use Rattle.lists.specs.Lists.{tabulate}
use Rattle.job.proofs.ResourceLaws.{four_charges}
use Rattle.job.proofs.resources.charged.Goals as goal

pub returns : goal.returns
unfolding tabulate
returns c =
    let c-args = c.args in
    let c-charge = c.charge-first in
    let c-charge2 = c.charge-second in
    let first = c-charge.ensures in
    let second = c-charge2.ensures in
    let third = c.charge-third.ensures in
    let fourth = c.charge-fourth.ensures in (
      rw (first.0, second.0, third.0, fourth.0),
      four_charges _ _ _ _ c-args.action.stores first.1 second.1 third.1 fourth.1,
    )
