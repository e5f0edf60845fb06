-- `any_too_long` meets its contract: found among the first k handovers.
use mathlib.Core.Path.{◌≡◌, refl, ap, sym, ◌∙◌}
use mathlib.Core.Bool.{Bool, ◌||◌, or_comm}
use Prim.Native.Nat.{ℕ}
use lib.ListN.{get_or}
use Rattle.lists.specs.Lists.{any_below}
use Rattle.lists.proofs.Below.{below_more, any_below_lem}
use Rattle.job.specs.Valid.{over}
use native.Mathlib.Omega.{arith}
use Rattle.job.proofs.validate.any_too_long.Goals as goal

pub loop-k-init : goal.loop-k-init
loop-k-init c = refl

pub loop-k-preserved : goal.loop-k-preserved
loop-k-preserved c =
    let l = c.loop-k in
    let test = λ (k : ℕ). over 30 (get_or c.args.handovers k 0) in
    ap (λ (b : Bool). b || test l.k) l.invariant
    ∙ or_comm (any_below l.k test) (test l.k)
    ∙ sym (below_more l.k test)

pub returns : goal.returns
returns c =
    let a = c.args in
    let e : c.loop-k.k ≡ a.n = omega arith in
    (rw e at c.loop-k.invariant) ∙ sym (any_below_lem (over 30) a.n (λ k. get_or a.handovers k 0))
