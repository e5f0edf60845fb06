-- `clash_set` meets its contract: the clashing actions below j are in the set.
use Rattle.job.specs.Job.{job_in}
use Rattle.tables.proofs.FillLaws.{ClashesBelow}
use Rattle.tables.proofs.fill.clash_set.Given as goal

abbrev pub invariant-loop-j : goal.invariant-loop-j
invariant-loop-j l = ClashesBelow (job_in l.job) l.i l.j l.set
