-- A step's share of a pool before it starts, while it has it, and once it is free again.
-- Assumes nothing.
use Prim.Native.Nat.{ℕ, ◌+◌, ◌<◌, ◌≤◌}
use mathlib.Core.Path.{◌≡◌, refl}
use mathlib.Core.Bool.{Bool, true, false, cond, ◌&&◌}
use lib.Dec.{leb}
use borrow.Author.Tests.{le-leb, lt-leb, lt-ltb, le-ltb}
use Rattle.job.specs.Job.{Job}
use Rattle.job.specs.Resources.{handover}
use Rattle.timeline.specs.Step.{Step}
use Rattle.timeline.specs.Timeline.{free, has_share}

module _ (J : Job) (pool t amount : ℕ) (x : Step) where
  pub no_share_before : t < x.start → cond (has_share J pool t x) amount 0 ≡ 0
  no_share_before h = rw (lt-leb x.start t h)

  pub no_share_after : x.stop + handover J pool ≤ t → cond (has_share J pool t x) amount 0 ≡ 0
  unfolding free
  no_share_after h = rw (le-ltb t (x.stop + handover J pool) h) (nothing (leb x.start t))
    where
      nothing : (b : Bool) → cond (b && false) amount 0 ≡ 0
      nothing true = refl
      nothing false = refl

  pub share_while_held : x.start ≤ t → t < x.stop + handover J pool → cond (has_share J pool t x) amount 0 ≡ amount
  unfolding free
  share_while_held a b = rw (le-leb x.start t a, lt-ltb t (x.stop + handover J pool) b)
