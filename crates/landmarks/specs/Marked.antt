-- The tables of a job with all that crate landmarks puts into them.
-- Assumes nothing.
use Rattle.std.specs.Prelude.{ℕ, ◌≤◌, ◌≡◌, List, length}
use Rattle.tables.specs.declared.Frame.{Frame}
use Rattle.landmarks.specs.Tables.{Closed, WithinAll}
use Rattle.landmarks.specs.Openings.{OpeningsTo}

-- landmarks, shares and openings
pub record LandmarkTables (sets numbers times : List ℕ) (frame : Frame) (start : ℕ) : Type 0 where
  pub closed : Closed sets frame.actions start
  pub within : WithinAll sets numbers frame.actions start
  pub openings : OpeningsTo sets numbers times frame 4

-- what filling requires: the table of times is long enough, and the frame within the limits
pub record WithinLimits (times : List ℕ) (frame : Frame) : Type 0 where
  pub time_count : length times ≡ 2080
  pub facts : frame.facts ≤ 64
  pub actions : frame.actions ≤ 64
  pub pools : frame.pools ≤ 4
