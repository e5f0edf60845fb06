-- The triangular numbering of pairs of facts.
-- Assumes nothing.
use Rattle.std.specs.Prelude.{ℕ, ◌+◌, ◌*◌, ◌/◌, ◌≤◌, ◌<◌, ◌≡◌}

-- "Entry q(q+1)/2 + p belongs to facts p ≤ q."
abbrev pub entry_of : ℕ → ℕ → ℕ
entry_of p q = q * (q + 1) / 2 + p

-- the facts of an entry
pub record PairAt (entry p q : ℕ) : Type 0 where
  pub ordered : p ≤ q
  pub within : q < 64
  pub numbered : entry_of p q ≡ entry

-- the entry is one of row q, which ends where the next begins
pub record IsRowOf (entry q : ℕ) : Type 0 where
  pub within : q < 64
  pub from : entry_of 0 q ≤ entry
  pub before : entry < entry_of 0 (q + 1)
