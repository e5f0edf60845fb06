-- `any_broken` meets its contract: the rules that the first i actions break.
use mathlib.Core.Path.{◌≡◌, sym, ap₂, ◌∙◌}
use Rattle.job.specs.Job.{action_at}
use Rattle.job.specs.Valid.{either_broken}
use Rattle.job.proofs.BrokenLaws.{broken_start, broken_next}
use native.Mathlib.Omega.{arith}
use Rattle.job.proofs.validate.any_broken.Goals as goal

pub loop-i-init : goal.loop-i-init
loop-i-init c =
    let j = c.args.job in
    broken_start j.facts (action_at j)

pub loop-i-preserved : goal.loop-i-preserved
loop-i-preserved c =
    let j = c.args.job in
    let l = c.loop-i in
    c.either-broken.ensures
    ∙ ap₂ either_broken l.invariant c.broken_by.ensures
    ∙ sym (broken_next j.facts (action_at j) l.i)

pub returns : goal.returns
returns c =
    let l = c.loop-i in
    let e : l.i ≡ c.args.job.counts.actions = omega arith in
    rw e at l.invariant
