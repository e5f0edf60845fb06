-- `amounts` meets its contract: the first i are written.
use Prim.Native.Nat.{ℕ, ◌+◌, ◌*◌}
use mathlib.Core.Path.{◌≡◌, refl}
use lib.ListN.{get_or}
use Rattle.encoding.specs.Bytes.{to_bytes}
use Rattle.encoding.proofs.Numbers.{length_bytes}
use Rattle.encoding.proofs.Overwrite.{pieces_none, pieces_more}
use native.Mathlib.Omega.{arith}
use Rattle.writer.proofs.encode.amounts.Goals as goal

pub loop-i-init : goal.loop-i-init
loop-i-init c =
    let f : ℕ → ℕ = λ k. get_or c.args.xs k 0 in
    (pieces_none (to_bytes 4) f 4 (λ k. length_bytes 4 (f k)) _ _, refl)

pub loop-i-preserved : goal.loop-i-preserved
loop-i-preserved c =
    let l = c.loop-i in
    let a = c.args in
    let f : ℕ → ℕ = λ k. get_or a.xs k 0 in
    let k = c.write_number.auto.out in (
      rw (c.write_number.ensures, c.from.ensures, l.invariant.0)
          (pieces_more (to_bytes 4) f 4 (λ k. length_bytes 4 (f k)) a.out.now a.at l.i (a.at + 4 * l.i)
          (omega arith)
          (omega arith)),
      omega arith,
    )

pub shape_of-out : goal.shape_of-out
shape_of-out c = c.loop-i.invariant.1

pub returns : goal.returns
returns c =
    let e : c.loop-i.i ≡ c.args.n = omega arith in
    rw e at c.loop-i.invariant.0
