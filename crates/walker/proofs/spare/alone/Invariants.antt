-- `alone` meets its contract: what the first k steps add while the step runs is gone.
use Rattle.walker.specs.Spare.{Alone}
use Rattle.walker.proofs.spare.alone.Given as goal

abbrev pub invariant-loop-k : goal.invariant-loop-k
invariant-loop-k l = Alone l.sets l.numbers l.steps l.k l.b l.from l.stop l.set
