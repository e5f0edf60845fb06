-- `action` meets its contract: field by field.
use Prim.Native.Nat.{◌+◌, ◌-◌, ◌*◌}
use mathlib.Core.Path.{◌≡◌}
use lib.ListN.{length}
use Rattle.jobfile.specs.File.{action_of}
use native.Mathlib.Omega.{arith}
use Rattle.reader.proofs.action.action.Goals as goal

pub returns : goal.returns
unfolding action_of
returns c =
    let a = c.args in
    let p : (25 + 4 * a.pools) - 25 ≡ 4 * a.pools = omega arith in
    let q : length a.bytes.now - (25 + 4 * a.pools) ≡ 4 * a.stores = omega (arith, c.requires) in
    rw (
      c.read_number.ensures.0,
      c.read_number-2.ensures.0,
      c.read_number-3.ensures.0,
      c.read_number-4.ensures.0,
      c.amounts-held.ensures,
      c.amounts-taken.ensures,
      p,
      q,
    )
