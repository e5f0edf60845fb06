-- `read_number` meets its contract: `Reading` is the loop's invariant.
use Prim.Native.Nat.{◌+◌, ◌-◌, ◌<◌}
use mathlib.Core.Path.{◌≡◌}
use native.Mathlib.Omega.{arith}
use Rattle.encoding.proofs.ReadLoop.{reading_none, reading_more, reading_fits}
use Rattle.encoding.proofs.read_number.Goals as goal

pub loop-i-init : goal.loop-i-init
loop-i-init c = reading_none _ _ _

pub overflow_mul-x : goal.overflow_mul-x
overflow_mul-x c =
    let l = c.loop-i in
    let f = reading_fits (c.args.n - l.i) l.x (omega arith) l.invariant.2 in
    omega arith

pub overflow_add-x : goal.overflow_add-x
overflow_add-x c =
    let l = c.loop-i in
    let f = reading_fits (c.args.n - l.i) l.x (omega arith) l.invariant.2 in
    let b : c.from.result < 256 = rw c.from.ensures (omega (arith, c.type_inv.bytes (c.args.at + (l.i - 1)))) in
    omega arith

pub loop-i-preserved : goal.loop-i-preserved
loop-i-preserved c =
    let l = c.loop-i in
    let a = c.args in
    rw c.from.ensures (reading_more a.bytes.now a.at a.n l.i l.x (omega arith)
    (omega (arith, c.type_inv.bytes (a.at + (l.i - 1)))) (omega arith) l.invariant)

pub returns : goal.returns
returns c =
    let l = c.loop-i in
    let a = c.args in
    let e : a.at + l.i ≡ a.at = omega arith in
    let f : a.n - l.i ≡ a.n = omega arith in
    (rw (e, f) at l.invariant.1, rw f at l.invariant.2)
