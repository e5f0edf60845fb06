-- `any_wrong_range` meets its contract: found among the first i actions.
use mathlib.Core.Path.{◌≡◌, refl, sym, ap, ap₂, ◌∙◌}
use mathlib.Core.Bool.{◌||◌, or_comm}
use Rattle.lists.specs.Lists.{any_below}
use Rattle.lists.proofs.Below.{below_more}
use Rattle.lists.proofs.Tabulate.{length_tabulate}
use Rattle.job.specs.Job.{job_in, action_at}
use Rattle.job.specs.Valid.{wrong_range, has_wrong_range}
use Rattle.job.proofs.LengthLaws.{longest_is, shortest_is}
use native.Mathlib.Omega.{arith}
use Rattle.job.proofs.lengths.any_wrong_range.Goals as goal

pub loop-i-init : goal.loop-i-init
loop-i-init c = refl

pub loop-i-preserved : goal.loop-i-preserved
loop-i-preserved c =
    let c-args = c.args in
    let c-loop = c.loop-i in
    let c-if1 = c.loop-i-test in
    let j = c-args.job in
    let l = c-loop in
    let known = c-if1.true in
    let test = has_wrong_range (job_in j) in
    let here = c.wrong_range-found.ensures
    ∙ ap₂ wrong_range (c.shortest-least.ensures ∙ shortest_is j l.i known) (longest_is j l.i known) in
    ap₂ ◌||◌ l.invariant here ∙ or_comm (any_below l.i test) (test l.i) ∙ sym (below_more l.i test)

pub returns : goal.returns
returns c =
    let c-args = c.args in
    let j = c-args.job in
    let l = c.loop-i in
    let n = length_tabulate j.counts.actions (action_at j) in
    let e : l.i ≡ j.counts.actions = omega arith in
    (rw e at l.invariant) ∙ ap (λ m. any_below m (has_wrong_range (job_in j))) (sym n)
