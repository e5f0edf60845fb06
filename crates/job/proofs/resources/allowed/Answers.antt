-- `allowed` meets its contract: store by store.
use Rattle.lists.specs.Lists.{tabulate}
use Rattle.job.proofs.resources.allowed.Goals as goal

pub returns : goal.returns
unfolding tabulate
returns c =
    let c-reserve = c.reserve-reserve in
    let c-allowance = c.allowance-first in
    let c-allowance2 = c.allowance-second in
    rw (
      c-allowance.ensures,
      c-allowance2.ensures,
      c.allowance-third.ensures,
      c.allowance-fourth.ensures,
      c-reserve.ensures,
    )
