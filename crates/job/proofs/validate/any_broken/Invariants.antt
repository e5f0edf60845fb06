-- `any_broken` meets its contract: the rules that the first i actions break.
use mathlib.Core.Path.{◌≡◌}
use Rattle.lists.specs.Lists.{tabulate}
use Rattle.job.specs.Job.{action_at}
use Rattle.job.proofs.BrokenLaws.{broken_in}
use Rattle.job.proofs.validate.any_broken.Given as goal

abbrev pub invariant-loop-i : goal.invariant-loop-i
invariant-loop-i l = l.broken ≡ broken_in l.job.facts (tabulate l.i (action_at l.job))
