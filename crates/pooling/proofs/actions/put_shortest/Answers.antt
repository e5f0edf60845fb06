-- `put_shortest` meets its contract: the first i lengths stand behind those of the array.
use Prim.Native.Nat.{ℕ}
use mathlib.Core.Path.{◌≡◌, ap, ◌∙◌}
use mathlib.Core.List.{List}
use lib.ListN.{length}
use Rattle.lists.specs.Lists.{filled}
use Rattle.lists.proofs.Tabulate.{length_tabulate}
use Rattle.job.specs.Job.{action_at, job_in}
use Rattle.job.specs.Lengths.{shortest_of}
use Rattle.job.proofs.LengthLaws.{shortest_is}
use Rattle.pooling.proofs.PooledArrays.{put_behind, nothing_behind}
use native.Mathlib.Omega.{arith}
use Rattle.pooling.proofs.actions.put_shortest.Goals as goal

pub loop-i-init : goal.loop-i-init
loop-i-init c =
    let a = c.args in
    λ xs e h. h ∙ ap (λ (ys : List ℕ). filled 64 0 ys) (nothing_behind xs (shortest_of (job_in a.job)))

pub loop-i-preserved : goal.loop-i-preserved
loop-i-preserved c =
    let a = c.args in
    let l = c.loop-i in
    let most = c.requires.1 in
    λ xs e h.
    put_behind 64 0 xs (shortest_of (job_in a.job)) l.i a.at l.out c.shortest.result e (omega arith)
    (l.invariant xs e h) (c.shortest.ensures ∙ shortest_is a.job l.i (omega arith))

pub returns : goal.returns
returns c =
    let a = c.args in
    let l = c.loop-i in
    let n = length_tabulate a.job.counts.actions (action_at a.job) in
    let e : l.i ≡ length (job_in a.job).actions = omega arith in
    rw e at l.invariant
