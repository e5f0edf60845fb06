-- `allowance` meets its contract: all there is, or so many parts of a hundred.
use native.Mathlib.Nat.{mul-le-mul, le_refl}
use native.Mathlib.Omega.{arith}
use Rattle.job.proofs.resources.allowance.Goals as goal

pub overflow_mul-result : goal.overflow_mul-result
overflow_mul-result c =
    let same = c.from.ensures in
    let small = c.ranges.available.fits in
    let few = mul-le-mul {n₁ = c.from.result} {n₂ = 4294967296} {m₂ = 100} (omega arith) c.unreserved.ensures.1 in
    record { fits = omega arith }

pub overflow_cast-result : goal.overflow_cast-result
overflow_cast-result c =
    let same = c.from.ensures in
    let small = c.ranges.available.fits in
    let part = mul-le-mul {m₂ = 100} (le_refl c.from.result) c.unreserved.ensures.1 in
    record { fits = omega arith }

pub returns-in-PerHour : goal.returns-in-PerHour
returns-in-PerHour c =
    rw (c.in-PerHour.is, c.from.ensures, c.unreserved.ensures.0)
