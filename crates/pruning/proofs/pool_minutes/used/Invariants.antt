-- `used` meets its contract: what the first k steps use is added up.
use Prim.Native.Nat.{◌*◌, ◌^◌, ◌≤◌}
use Rattle.pruning.specs.Missing.{UsedBefore}
use Rattle.pruning.proofs.pool_minutes.used.Given as goal

abbrev pub invariant-loop-k : goal.invariant-loop-k
invariant-loop-k l = (l.all ≤ l.k * 2 ^ 40) × UsedBefore l.numbers l.actions l.steps l.pool l.from l.t l.k l.all
