-- The job that a first half leaves for the second.
-- Assumes nothing.
use Rattle.std.specs.Prelude.{ℕ, ◌-◌, List, length}
use Rattle.lists.specs.Lists.{tabulate}
use Rattle.job.specs.Job.{Job}
use Rattle.job.specs.Resources.{store_cap}
use Rattle.job.specs.Resumed.{resumed, without_reserve}
use Rattle.timeline.specs.Step.{Step}
use Rattle.timeline.specs.Timeline.{end, held, used_up}

-- what the steps leave of the allowed total of a store
abbrev pub left_of : Job → List Step → ℕ → ℕ
left_of J P store = store_cap J store - used_up J store P

-- "from the facts and stores left (18 then counts the two halves together, while 26 looks only at the job as given)".
-- The reserve is not taken twice. It is no job that a caller hands in: no row of the table is asked of it
abbrev pub afternoon : Job → List Step → Job
afternoon J P = resumed (without_reserve J) (held J.start P (end P)) (tabulate (length J.stores) (left_of J P))
