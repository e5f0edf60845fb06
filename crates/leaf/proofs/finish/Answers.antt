-- `finish` meets its contract: the file is read, the steps put in order and held to the checker.
use Rattle.std.proofs.Common.{sym, ◌∙◌}
use Rattle.leaf.proofs.Finishing.{finishes_unread, finishes_read}
use Rattle.leaf.proofs.finish.Goals as goal

pub returns-in_err-read : goal.returns-in_err-read
returns-in_err-read c =
    rw c.from_residual.ensures
    (finishes_unread _ c.args.frame c.args.steps _ c.read.ensures.answers (sym c.ok.ensures.value ∙ c.in_err-read.was))

pub returns : goal.returns
returns c =
    finishes_read _ c.args.frame c.args.steps _ _ _ _ c.read.ensures.answers (sym c.ok.ensures.value ∙ c.in_ok-read.was)
    _ c.resumed-job.ensures c.requires c.in_order.ensures.0 c.in_order.ensures.1 c.as_plan.ensures
