-- `charge` meets its contract: once, or for each of at most five hours.
use native.Mathlib.Nat.{mul-le-mul, le_refl}
use native.Mathlib.Omega.{arith}
use Rattle.job.proofs.resources.charge.Goals as goal

pub overflow_mul-result : goal.overflow_mul-result
overflow_mul-result c =
    let wide = c.from-in-PerHour in
    let same = wide.ensures in
    let small = c.ranges.amount.fits in
    let few = mul-le-mul {n₁ = wide.result} {n₂ = 4294967296} {m₂ = 5} (omega arith) c.hours.ensures.1 in
    record { fits = omega arith }

pub returns-in-PerStep : goal.returns-in-PerStep
returns-in-PerStep c =
    let same = c.from.ensures in
    let small = c.ranges.amount.fits in
    (rw c.in-PerStep.is same, (omega arith, omega arith))

pub returns-in-PerHour : goal.returns-in-PerHour
returns-in-PerHour c =
    let wide = c.from-in-PerHour in
    let same = wide.ensures in
    let small = c.ranges.amount.fits in
    let few = mul-le-mul {n₁ = wide.result} {n₂ = 4294967296} {m₂ = 5} (omega arith) c.hours.ensures.1 in
    let part = mul-le-mul {m₂ = 5} (le_refl wide.result) c.hours.ensures.1 in
    (rw (c.in-PerHour.is, wide.ensures, c.hours.ensures.0), (omega arith, omega arith))
