-- The peak of a pool is its largest use where a step starts; the pool is exceeded exactly if its peak is more than
-- there is.
-- Assumes nothing.
use Prim.Native.Nat.{ℕ, zero, suc, ◌<◌, ◌≤◌}
use mathlib.Core.Path.{◌≡◌}
use mathlib.Core.Bool.{true, or-true}
use mathlib.Core.Logic.{⊎_elim}
use mathlib.Core.List.{List}
use native.Mathlib.Omega.{arith}
use borrow.Author.Tests.{ltb-true, lt-ltb}
use Rattle.lists.proofs.Below.{below_some}
use Rattle.lists.specs.Lists.{any, any_below}
use Rattle.job.specs.Job.{Job}
use Rattle.job.specs.Valid.{over}
use Rattle.timeline.specs.Step.{Step, largest}
use Rattle.timeline.specs.Timeline.{free, has_share, in_use, largest_below, peak}
use Rattle.timeline.proofs.Tests.{decided, same_test, le_or_lt}
use Rattle.timeline.proofs.Places.{largest_at_least, largest_at_most}
use Rattle.timeline.proofs.Shares.{share_reads}
use Rattle.timeline.proofs.PoolStarts.{last_to_start, nothing_without_shares, in_use_no_less}
use Rattle.timeline.proofs.PoolStarts.{exceeded_before_free}

-- ---- the largest of some numbers
below_at_most : (n most : ℕ) (f : ℕ → ℕ) → ((t : ℕ) → t < n → f t ≤ most) → largest_below n f ≤ most
below_at_most zero most f h = omega arith
below_at_most (suc n) most f h =
    let here = h n (omega arith) in
    let rest = below_at_most n most f (λ t l. h t (omega arith)) in
    omega arith

pub below_at_least : (n t : ℕ) (f : ℕ → ℕ) → t < n → f t ≤ largest_below n f
below_at_least zero t f l = absurd (omega arith)
below_at_least (suc n) t f l =
    ⊎_elim (λ e. let same : t ≡ n = omega arith in rw same (omega arith))
    (λ b. let rest = below_at_least n t f (omega arith) in omega arith)
    (le_or_lt n t)

exceeded_somewhere : (n cap : ℕ) (f : ℕ → ℕ) → cap < largest_below n f → any_below n (λ t. over cap (f t)) ≡ true
exceeded_somewhere zero cap f h = absurd (omega arith)
exceeded_somewhere (suc n) cap f h =
    ⊎_elim (λ here. rw (lt-ltb cap (f n) here))
    (λ less. rw (exceeded_somewhere n cap f (omega arith)) (or-true (over cap (f n))))
    (le_or_lt (suc cap) (f n))

-- ---- what is in use of a pool
module _ (J : Job) (pool : ℕ) (P : List Step) where
  abbrev amount : ℕ → ℕ
  amount t = in_use J pool t P

  use_by_starts : (t : ℕ) → amount t ≤ largest (λ x. amount x.start) P
  use_by_starts t =
      ⊎_elim
      (λ h.
      let z = last_to_start (has_share J pool t) P h in
      let more = in_use_no_less J pool t z.0.start P (share_reads J pool t z.0 z.3).0 z.4 in
      let most = largest_at_least (λ x. amount x.start) z.2 in
      omega arith)
      (λ h. let nothing = nothing_without_shares J pool t P h in omega arith)
      (decided (any (has_share J pool t) P))

  pub use_by_minutes : (t : ℕ) → amount t ≤ peak J pool P
  unfolding peak
  use_by_minutes t =
      ⊎_elim (λ none. omega arith)
      (λ some.
      below_at_least (largest (free J pool) P) t amount (exceeded_before_free J pool 0 t P (lt-ltb 0 (amount t) some)))
      (le_or_lt (amount t) 0)

  pub peak_at_start : peak J pool P ≡ largest (λ x. amount x.start) P
  unfolding peak
  peak_at_start =
      let a = below_at_most (largest (free J pool) P) (largest (λ x. amount x.start) P) amount
      (λ t l. use_by_starts t) in
      let b = largest_at_most (λ x. amount x.start) (peak J pool P) P (λ x Q i. use_by_minutes x.start) in
      omega arith

  -- the peak is at most what bounds the use in every minute
  pub peak_at_most : (most : ℕ) → ((t : ℕ) → amount t ≤ most) → peak J pool P ≤ most
  unfolding peak
  peak_at_most most h = below_at_most (largest (free J pool) P) most amount (λ t l. h t)

  pub exceeds_by_peak : (cap : ℕ)
      → any_below (largest (free J pool) P) (λ t. over cap (amount t)) ≡ over cap (peak J pool P)
  unfolding peak
  exceeds_by_peak cap =
      same_test _ _
      (λ h.
      let r = below_some (largest (free J pool) P) (λ t. over cap (amount t)) h in
      let more = ltb-true cap (amount r.0) r.2 in
      let most = use_by_minutes r.0 in
      lt-ltb cap (peak J pool P) (omega arith))
      (λ h. exceeded_somewhere (largest (free J pool) P) cap amount (ltb-true cap (peak J pool P) h))
