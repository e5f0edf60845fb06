-- `event` meets its contract: no start lies between, nor one less the handover of the pools gone over.
use borrow.Author.Count.{below_more}
use native.Mathlib.Omega.{arith}
use Rattle.states.proofs.moves.event.Goals as goal

pub loop-k-preserved : goal.loop-k-preserved
loop-k-preserved c =
    let inv = c.loop-k.invariant in
    let i0 = inv.0 in
    let r = c.later_event-m.ensures in
    let r0 = r.0 in (
      omega arith,
      r.1,
      λ k l m a b e. inv.2 k l m (omega arith) b e,
      below_more _ _ (λ pool before k inside m a b e. inv.3 pool before k inside m (omega arith) b e) (r.2 inv.2),
    )

pub returns : goal.returns
returns c =
    let inv = c.loop-k.invariant in
    (inv.0, inv.1, record { starts = inv.2; put_off = λ pool l k m s a b e. inv.3 pool (omega arith) k m s a b e })
