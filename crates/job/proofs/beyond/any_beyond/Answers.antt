-- `any_beyond` meets its contract: found among the first i actions.
use mathlib.Core.Path.{◌≡◌, sym, ap₂, ◌∙◌}
use mathlib.Core.Bool.{◌||◌}
use Rattle.lists.proofs.Any.{any_start, any_next}
use Rattle.job.specs.Job.{job_in, action_at}
use Rattle.job.specs.Valid.{uses_beyond}
use native.Mathlib.Omega.{arith}
use Rattle.job.proofs.beyond.any_beyond.Goals as goal

pub loop-i-init : goal.loop-i-init
loop-i-init c =
    let j = c.args.job in
    sym (any_start (uses_beyond (job_in j)) (action_at j))

pub loop-i-preserved : goal.loop-i-preserved
loop-i-preserved c =
    let j = c.args.job in
    let l = c.loop-i in
    ap₂ ◌||◌ l.invariant c.uses_beyond-found.ensures ∙ sym (any_next (uses_beyond (job_in j)) (action_at j) l.i)

pub returns : goal.returns
returns c =
    let l = c.loop-i in
    let e : l.i ≡ c.args.job.counts.actions = omega arith in
    rw e at l.invariant
