-- `joined` meets its contract: the step's share of a pool counts from its start to its stop, put off by the handover.
use Rattle.std.proofs.Common.{rules}
use Rattle.states.proofs.AmountLaws.{joins_uses}
use Rattle.states.proofs.amounts.joined.Goals as goal

pub returns : goal.returns
returns c =
    let at = c.args in
    let from = c.wide-from.ensures.0 in
    let stop = c.stop-stop.ensures.0 in
    joins_uses at.numbers.now at.handovers at.t at.i at.start at.uses _
    (rw (from, stop) at c.with_shares-more_before.ensures)
    (rw (from, stop) at c.with_shares-more_now.ensures) (c.plus-more_spent.ensures _ (λ k b l p. search rules))
