-- `facts::next` meets its contract: the shifts drop the facts below, and as many zeros stand below the next.
use Prim.Native.Nat.{◌*◌, ◌/◌, ◌%◌, ◌^◌}
use mathlib.Core.Path.{◌≡◌}
use native.Mathlib.Nat.{div-mul-le_self, mod-eq_of_lt}
use native.Mathlib.Omega.{arith}
use lib.Count.{trailing_le}
use Rattle.facts.proofs.Lowest.{next_when_none, next_by_zeros}
use Rattle.facts.proofs.next.Goals as goal

pub returns-then-from-ge-BITS : goal.returns-then-from-ge-BITS
returns-then-from-ge-BITS c = next_when_none c.args.set c.args.from (omega arith) (omega arith)

pub overflow_cast-result : goal.overflow_cast-result
overflow_cast-result c =
    let above = c.args.set / 2 ^ c.args.from * 2 ^ c.args.from % 2 ^ 64 in
    let few = trailing_le 64 above in
    omega arith

pub returns : goal.returns
returns c =
    let set = c.args.set in
    let from = c.args.from in
    let most = div-mul-le_self set (2 ^ from) in
    let whole : set / 2 ^ from * 2 ^ from % 2 ^ 64 ≡ set / 2 ^ from * 2 ^ from = mod-eq_of_lt (omega arith) in
    rw whole (next_by_zeros set from (omega arith) (omega arith))
