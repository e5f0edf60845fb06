-- `any_above` meets its contract: found among the first k amounts, of those that count.
use mathlib.Core.Path.{◌≡◌, refl, ap, sym, ◌∙◌}
use mathlib.Core.Bool.{Bool, ◌||◌, or_comm}
use Rattle.lists.specs.Lists.{any_below}
use Rattle.lists.proofs.Below.{below_more, below_cut}
use native.Mathlib.Omega.{arith}
use Rattle.job.proofs.beyond.any_above.Invariants.{above_at, counts_at}
use Rattle.job.proofs.beyond.any_above.Goals as goal

pub loop-k-init : goal.loop-k-init
loop-k-init c = refl

pub loop-k-preserved : goal.loop-k-preserved
loop-k-preserved c =
    let a = c.args in
    let l = c.loop-k in
    let test = counts_at a.n a.limits a.amounts in
    ap (λ (b : Bool). b || test l.k) l.invariant
    ∙ or_comm (any_below l.k test) (test l.k)
    ∙ sym (below_more l.k test)

pub returns : goal.returns
returns c =
    let a = c.args in
    let l = c.loop-k in
    let e : l.k ≡ 4 = omega arith in
    (rw e at l.invariant) ∙ below_cut a.n 4 (above_at a.limits a.amounts) (omega arith)
