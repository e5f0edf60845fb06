-- Minutes of a pool: what steps use of it before a minute, each minute for itself, is within what there is in all.
-- Assumes nothing.
use Prim.Native.Nat.{ℕ, zero, suc, ◌+◌, ◌*◌, ◌-◌, ◌≤◌}
use mathlib.Core.Path.{◌≡◌, refl}
use mathlib.Core.Logic.{⊎_elim}
use mathlib.Core.List.{List, [], ◌∷◌}
use native.Mathlib.Nat.{mul-suc, mul-zero, mul-le-mul_left}
use native.Mathlib.Omega.{arith}
use lib.ListN.{get_or}
use Rattle.job.specs.Job.{Job}
use Rattle.timeline.specs.Step.{Step, total}
use Rattle.timeline.specs.Timeline.{in_use}
use Rattle.timeline.proofs.Tests.{le_or_lt}
use Rattle.timeline.proofs.Places.{total_of_sums, total_mono}
use Rattle.timeline.proofs.Shares.{use_at, share_when, use_of_share}
use Rattle.landmarks.specs.Landmarks.{minutes_in}

-- the sum of f over n minutes from minute m on
abbrev over : ℕ → ℕ → (ℕ → ℕ) → ℕ
over m zero f = 0
over m (suc n) f = f (m + n) + over m n f

over_at_most : (m n most : ℕ) (f : ℕ → ℕ) → ((k : ℕ) → f k ≤ most) → over m n f ≤ most * n
over_at_most m zero most f h = omega arith
over_at_most m (suc n) most f h =
    let here = h (m + n) in let rest = over_at_most m n most f h in let e = mul-suc most n in omega arith

total_of_zeros : (P : List Step) → total (λ x. 0) P ≡ 0
total_of_zeros [] = refl
total_of_zeros (x ∷ P) = let rest = total_of_zeros P in omega arith

-- sums over minutes and over steps are the same sum
over_total : (m n : ℕ) (g : ℕ → Step → ℕ) (P : List Step)
    → total (λ x. over m n (λ k. g k x)) P ≡ over m n (λ k. total (g k) P)
over_total m zero g P = total_of_zeros P
over_total m (suc n) g P =
    let rest = over_total m n g P in
    let e = total_of_sums (g (m + n)) (λ x. over m n (λ k. g k x)) P in
    omega arith

module _ (J : Job) (pool : ℕ) where
  abbrev share : Step → ℕ
  share x = get_or x.action.pools pool 0

  -- a step has its use in each of its minutes
  used_each_minute : (x : Step) (m n : ℕ) → share x * minutes_in m (m + n) x ≤ over m n (λ k. use_at J pool k x)
  used_each_minute x m zero =
      let none : minutes_in m (m + 0) x ≡ 0 = omega arith in rw none (omega (arith, mul-zero (share x)))
  used_each_minute x m (suc n) =
      let rest = used_each_minute x m n in
      ⊎_elim
      (λ started.
      ⊎_elim
      (λ over.
      let same : minutes_in m (m + suc n) x ≡ minutes_in m (m + n) x = omega arith in
      rw same (omega arith))
      (λ runs.
      let more : minutes_in m (m + suc n) x ≡ suc (minutes_in m (m + n) x) = omega arith in
      let e = mul-suc (share x) (minutes_in m (m + n) x) in
      let same_use = use_of_share J pool (m + n) x (share_when J pool (m + n) x started (omega arith)) in
      rw (more, same_use) (omega arith))
      (le_or_lt x.stop (m + n)))
      (λ later.
      let same : minutes_in m (m + suc n) x ≡ minutes_in m (m + n) x = omega arith in
      rw same (omega arith))
      (le_or_lt x.start (m + n))

  -- what steps use of the pool from m on and before t
  pub minutes_within : (m t most : ℕ) (P : List Step) → ((k : ℕ) → in_use J pool k P ≤ most)
      → total (λ x. share x * minutes_in m t x) P ≤ most * (t - m)
  minutes_within m t most P within =
      let all = over_at_most m (t - m) most (λ k. in_use J pool k P) within in
      let same = over_total m (t - m) (use_at J pool) P in
      let each : total (λ x. share x * minutes_in m t x) P ≤ total (λ x. over m (t - m) (λ k. use_at J pool k x)) P =
      total_mono (λ x. share x * minutes_in m t x) (λ x. over m (t - m) (λ k. use_at J pool k x)) P
      (λ x Q i.
      let sum = used_each_minute x m (t - m) in
      let no_less : minutes_in m t x ≤ minutes_in m (m + (t - m)) x = omega arith in
      let more = mul-le-mul_left (share x) no_less in
      omega arith) in
      omega arith
