-- `handovers` meets its contract: a way out for each form.
use mathlib.Core.Logic.{inl, inr}
use Rattle.job.proofs.ResourceLaws.{handovers_of_four, handovers_of_five, handovers_of_six}
use Rattle.job.proofs.resources.handovers.Goals as goal

pub returns-in-Four : goal.returns-in-Four
returns-in-Four c = handovers_of_four c.args.job c.in-Four.is

pub returns-in-Five : goal.returns-in-Five
returns-in-Five c =
    elim c.in-Five.is [ inl e ↦ handovers_of_five c.args.job e | inr e ↦ handovers_of_six c.args.job e ]
