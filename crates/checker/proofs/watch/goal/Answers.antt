-- `goal` meets its contract.
use mathlib.Core.Path.{sym, ap, ◌∙◌}
use mathlib.Core.Bool.{not}
use mathlib.Core.List.{[]}
use Rattle.job.specs.declared.refusal.Refusal.TheVariants.{GoalMissing}
use Rattle.job.specs.Refusal.{first}
use Rattle.job.proofs.Table.{first_here, first_next}
use Rattle.checker.proofs.watch.goal.Goals as goal

pub returns-then-not-subset : goal.returns-then-not-subset
returns-then-not-subset c =
    sym (first_here GoalMissing _ [] (ap not (sym c.subset.ensures.0 ∙ c.if-not-subset.true)))

pub returns : goal.returns
unfolding first
returns c =
    sym (first_next GoalMissing _ [] (ap not (sym c.subset.ensures.0 ∙ c.if-not-subset.false)))
