-- `look` meets its contract: the first k steps are joined.
use Prim.Native.Nat.{◌+◌, suc}
use mathlib.Core.Path.{◌≡◌}
use native.Mathlib.Omega.{arith}
use Rattle.states.proofs.amounts.look.Goals as goal

pub loop-k-preserved : goal.loop-k-preserved
loop-k-preserved c =
    let inv = c.loop-k.invariant in
    let r = c.joined-uses.ensures in
    let next : c.loop-k.k + 1 ≡ suc c.loop-k.k = omega arith in (
      r.more _ inv.0,
      λ J sets actions known described waits.
          rw next
          (r.joins J sets (described _ (known.known c.loop-k.k c.loop-k-test.true)) waits _
          (inv.1 J sets actions known described waits)),
    )
