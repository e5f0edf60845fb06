-- Two plans joined to one day.
-- Assumes nothing.
use Rattle.std.specs.Prelude.{ℕ, ◌+◌, Bool, ◌||◌, List, [], ◌∷◌, ◌++◌, map, length}
use Rattle.job.specs.Job.{Job}
use Rattle.job.specs.Resources.{handover}
use Rattle.job.specs.Valid.{over}
use Rattle.timeline.specs.Step.{Step, steps_in}
use Rattle.timeline.specs.Timeline.{end, largest_below}

-- the step so many minutes later
abbrev pub later_by : ℕ → Step → Step
later_by n x = record { number = x.number; action = x.action; start = n + x.start; stop = n + x.stop }

-- "the job's largest handover", over all its pools; 0 for none
abbrev pub largest_handover : Job → ℕ
largest_handover J = largest_below (length J.pools) (handover J)

-- "In a join, an empty half gives the other half. Otherwise the second starts at the first's end plus the job's
-- largest handover"
unfoldable pub join_steps : ℕ → List Step → List Step → List Step
join_steps wait [] B = B
join_steps wait (x ∷ A) [] = x ∷ A
join_steps wait (x ∷ A) (y ∷ B) = (x ∷ A) ++ map (later_by (end (x ∷ A) + wait)) (y ∷ B)

-- the steps of the day joined from the plans in bytes
abbrev pub joined_steps : Job → List ℕ → List ℕ → List Step
joined_steps J a b = join_steps (largest_handover J) (steps_in J a) (steps_in J b)

-- 34: "a joined plan has over 32 steps or ends after the deadline"
abbrev pub too_long : Job → List Step → Bool
too_long J P = over 32 (length P) || over J.deadline (end P)
