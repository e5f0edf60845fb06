-- Why the search ends: `attempt`, `choose` and `regress` call each other with a number that falls.
-- Document 01, "Each slice moves back by at least one minute": "Regression search calls itself with fewer minutes left,
-- the falling number."
-- Assumes nothing.
use Prim.Native.Nat.{ℕ, ◌+◌, ◌*◌, ◌^◌}

-- how many sets of 64 actions there are: more than the number of any of them
abbrev pub all_sets : ℕ
all_sets = 2 ^ 64

-- The minutes left come first: one fewer outweighs every set of undecided actions. That is the way back from `choose`
-- to `regress`. In one minute the set falls, as a number, by each action that `choose` hands to `attempt`. With the
-- same set `attempt` goes on to `choose`, the only call for which it matters which of the functions is called.
abbrev pub measure : ℕ → ℕ → ℕ → ℕ
measure minute undecided function = minute * (4 * all_sets) + (2 * undecided + function)

abbrev pub of_attempt : ℕ → ℕ → ℕ
of_attempt minute left = measure minute left 2

abbrev pub of_choose : ℕ → ℕ → ℕ
of_choose minute undecided = measure minute undecided 1

-- it has no set yet, and calls `choose` with any
abbrev pub of_regress : ℕ → ℕ
of_regress minute = measure minute all_sets 0
