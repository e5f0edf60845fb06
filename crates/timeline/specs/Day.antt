-- What is answered of a day: its end, its number of steps and the peaks of its pools, or why there is none.
-- Assumes nothing.
use Rattle.std.specs.Prelude.{List, length, replicate, Result, Ok, Err}
use Rattle.job.specs.Job.{Job}
use Rattle.job.specs.declared.refusal.Refusal.{Refusal}
use Rattle.job.specs.Refusal.{Verdict, answer_by}
use Rattle.timeline.specs.declared.Day.{Day}
use Rattle.timeline.specs.Step.{Step}
use Rattle.timeline.specs.Timeline.{end, peaks}

-- what is told of a plan: "the end and number of steps", and the peak of each of four pools
abbrev pub told_of : Job → List Step → Day
told_of J P = record { end = end P; steps = length P; peaks = peaks J P }

-- the refusal, or what is told of the plan
abbrev pub day_of : Verdict → Job → List Step → Result Day Refusal
day_of v J P = answer_by v (told_of J P)

-- what an answer tells: "a job or number standing beside" a refusal "is all zero"
abbrev pub told : Result Day Refusal → Day
told (Ok day) = day
told (Err why) = record { end = 0; steps = 0; peaks = replicate 4 0 }
