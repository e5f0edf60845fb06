-- `look` meets its contract: the first k steps are joined.
use Prim.Native.Nat.{◌+◌, suc}
use mathlib.Core.Path.{◌≡◌}
use native.Mathlib.Omega.{arith}
use Rattle.states.proofs.minute.look.Goals as goal

pub loop-k-init : goal.loop-k-init
loop-k-init c = λ J described. c.empty-m.ensures _

pub loop-k-preserved : goal.loop-k-preserved
loop-k-preserved c =
    let next : c.loop-k.k + 1 ≡ suc c.loop-k.k = omega arith in
    let below = c.requires.1.known c.loop-k.k c.loop-k-test.true in
    λ J described. rw next (c.joined-m.ensures J (described _ below) _ (c.loop-k.invariant J described))
