-- `contents` meets its contract: the first k numbers are written.
use Prim.Native.Nat.{ℕ, ◌*◌}
use mathlib.Core.Path.{◌≡◌, refl}
use lib.ListN.{get_or}
use Rattle.encoding.specs.Bytes.{to_bytes}
use Rattle.encoding.proofs.Numbers.{length_bytes}
use Rattle.encoding.proofs.Overwrite.{pieces_none, pieces_more}
use native.Mathlib.Omega.{arith}
use Rattle.writer.proofs.encode.contents.Goals as goal

pub loop-k-init : goal.loop-k-init
loop-k-init c =
    let f : ℕ → ℕ = λ k. get_or c.args.xs k 0 in
    (pieces_none (to_bytes 2) f 2 (λ k. length_bytes 2 (f k)) _ _, refl)

pub loop-k-preserved : goal.loop-k-preserved
loop-k-preserved c =
    let l = c.loop-k in
    let a = c.args in
    let f : ℕ → ℕ = λ k. get_or a.xs k 0 in
    let k = c.write_number.auto.out in (
      rw (c.write_number.ensures, l.invariant.0)
          (pieces_more (to_bytes 2) f 2 (λ k. length_bytes 2 (f k)) a.out.now 0 l.k (2 * l.k) (omega arith)
          (omega arith)),
      omega arith,
    )

pub shape_of-out : goal.shape_of-out
shape_of-out c = c.loop-k.invariant.1

pub returns : goal.returns
returns c =
    let l = c.loop-k in
    let e : l.k ≡ c.args.n = omega arith in
    rw e at l.invariant.0
