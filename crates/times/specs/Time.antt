-- A time: "a number or unreachable".
-- Assumes nothing.
use Rattle.std.specs.Prelude.{ℕ, zero, suc, ◌+◌, min, max, Bool, true, false}

pub data Time : Type 0 where
  at : ℕ → Time
  unreachable : Time

-- the earlier and the later of two times
abbrev pub earlier : Time → Time → Time
earlier unreachable b = b
earlier (at x) unreachable = at x
earlier (at x) (at y) = at (min x y)

abbrev pub later : Time → Time → Time
later unreachable b = unreachable
later (at x) unreachable = unreachable
later (at x) (at y) = at (max x y)

-- n minutes after a time
abbrev pub after : ℕ → Time → Time
after n unreachable = unreachable
after n (at x) = at (n + x)

-- the time of a choice, where it is one: "no choice, or only endless ones: unreachable"
abbrev pub choice : Bool → Time → Time
choice true a = a
choice false a = unreachable

-- a time that must be met, where it is asked for
abbrev pub demand : Bool → Time → Time
demand true a = a
demand false a = at 0

-- the least and the largest of f 0 .. f (n - 1)
abbrev pub least : ℕ → (ℕ → Time) → Time
least zero f = unreachable
least (suc n) f = earlier (f n) (least n f)

abbrev pub greatest : ℕ → (ℕ → Time) → Time
greatest zero f = at 0
greatest (suc n) f = later (f n) (greatest n f)
