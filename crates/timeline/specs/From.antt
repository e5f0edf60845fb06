-- Where new steps begin in the order of a plan: the steps before that place are kept.
-- Assumes nothing.
use Rattle.std.specs.Prelude.{ℕ, ◌+◌, ◌<◌, ◌≤◌, ◌≡◌, Bool, ◌&&◌, ◌||◌, ◌⊎◌, eqb, ltb}
use Rattle.timeline.specs.Step.{Step}

-- a place in the order of start, then action: a minute, and in that minute an action's number
pub record From : Type 0 where
  pub minute : ℕ
  pub number : ℕ

-- the place before all steps that start at the minute or later
abbrev pub from_minute : ℕ → From
from_minute minute = record { minute = minute; number = 0 }

-- the step is new: it does not stand before that place
abbrev pub IsNew : From → Step → Type 0
IsNew b x = (b.minute < x.start) ⊎ ((x.start ≡ b.minute) × (b.number ≤ x.number))

-- the step is kept: it stands before that place
abbrev pub IsKept : From → Step → Type 0
IsKept b x = (x.start < b.minute) ⊎ ((x.start ≡ b.minute) × (x.number < b.number))

-- the same as a test
abbrev pub is_kept : From → Step → Bool
is_kept b x = ltb x.start b.minute || (eqb x.start b.minute && ltb x.number b.number)

-- the step of an action with this number and duration that stops at minute t is new
abbrev pub FitsFrom : From → ℕ → ℕ → ℕ → Type 0
FitsFrom b number duration t =
    (b.minute + duration < t) ⊎ ((b.minute + duration ≡ t) × (b.number ≤ number))
