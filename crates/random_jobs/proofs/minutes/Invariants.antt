-- `minutes` is safe: each action adds at most 255 minutes.
use Rattle.std.proofs.Common.{◌*◌, ◌≤◌}
use Rattle.random_jobs.proofs.minutes.Given as goal

abbrev pub invariant-loop-action : goal.invariant-loop-action
invariant-loop-action l = l.sum ≤ l.action-index * 255
