-- How long the actions of a job last: at most so many minutes, by which plans are made, and at least so many.
-- Assumes nothing.
use Rattle.std.specs.Prelude.{ℕ, get_or}
use Rattle.job.specs.declared.Form.{Form}
use Rattle.job.specs.declared.Form.TheVariants.{Four, Five, Six}
use Rattle.job.specs.Job.{Job, no_action}

-- "The length in the action becomes the longest one."
abbrev pub longest_of : Job → ℕ → ℕ
longest_of J i = (get_or J.actions i no_action).duration

-- "one byte of shortest length for each action"; "Older forms have shortest equal to longest"
unfoldable pub shortest_of : Job → ℕ → ℕ
shortest_of J i = get_or J.shortest i (longest_of J i)

-- ---- the same in a value

-- of an action with this longest length, for which the value holds this shortest one
abbrev pub shortest_by : Form → ℕ → ℕ → ℕ
shortest_by Four held longest = longest
shortest_by Five held longest = longest
shortest_by Six held longest = held
