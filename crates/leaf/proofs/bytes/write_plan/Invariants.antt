-- `write_plan` meets its contract: `Wrote` is the loop's invariant.
use Rattle.leaf.proofs.Writing.{Wrote}
use Rattle.leaf.proofs.bytes.write_plan.Given as goal

abbrev pub invariant-loop-k : goal.invariant-loop-k
invariant-loop-k l = Wrote l.steps l.initial.out l.out l.k
