-- `put` meets its contract: the first i actions stand behind those of the array.
use Rattle.job.specs.Job.{action_at}
use Rattle.pooling.specs.Pooled.{renumbered}
use Rattle.pooling.proofs.PooledArrays.{actions_start, actions_next}
use native.Mathlib.Omega.{arith}
use Rattle.pooling.proofs.actions.put.Goals as goal

pub loop-i-init : goal.loop-i-init
loop-i-init c =
    let a = c.args in
    λ xs pools stores e h w. actions_start xs (renumbered a.facts pools stores) (action_at a.job) a.out h

pub loop-i-preserved : goal.loop-i-preserved
loop-i-preserved c =
    let a = c.args in
    let l = c.loop-i in
    let most = c.requires.1 in
    λ xs pools stores e h w.
    actions_next xs (renumbered a.facts pools stores) (action_at a.job) l.i a.at l.out
    c.renumbered.result e (omega arith) (l.invariant xs pools stores e h w)
    (c.renumbered.ensures pools stores w)
