-- `look` meets its contract: the first k steps are joined.
use Rattle.job.specs.Job.{Job}
use Rattle.tables.specs.Tables.{chosen_to, DescribesEach}
use Rattle.states.specs.Minutes.{MinuteOf}
use Rattle.states.proofs.minute.look.Given as goal

abbrev pub invariant-loop-k : goal.invariant-loop-k
invariant-loop-k l =
    ((J : Job) → DescribesEach J l.sets l.numbers l.actions → MinuteOf l.t (chosen_to J l.steps l.k) l.m)
