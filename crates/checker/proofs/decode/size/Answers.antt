-- `size` meets its contract.
use Rattle.job.specs.Refusal.{first}
use Rattle.checker.proofs.decode.size.Goals as goal

pub returns-then-bytes : goal.returns-then-bytes
unfolding first
returns-then-bytes c = rw c.if-bytes.true

pub returns : goal.returns
unfolding first
returns c = rw c.if-bytes.false
