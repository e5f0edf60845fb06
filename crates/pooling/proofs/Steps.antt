-- A step of one of two jobs in the pooled job.
-- Assumes nothing.
use Prim.Native.Nat.{ℕ, ◌+◌}
use Rattle.timeline.specs.Step.{Step}
use Rattle.pooling.specs.Pooled.{renumbered}

-- its facts behind so many, its number behind so many
abbrev pub in_pool : ℕ → ℕ → ℕ → ℕ → Step → Step
in_pool facts numbers pools stores x =
    record {
      number = numbers + x.number;
      action = renumbered facts pools stores x.action;
      start = x.start;
      stop = x.stop;
    }
