-- `plus` meets its contract: the first k sums have their amounts, the others are as before.
use Prim.Native.Nat.{◌+◌}
use mathlib.Core.Path.{◌≡◌, ap, ◌∙◌}
use mathlib.Core.Bool.{Bool, cond}
use lib.ListN.{get_or, length-set}
use lib.Seq.{get_or-set_other}
use Rattle.states.proofs.AmountLaws.{added_on}
use native.Mathlib.Omega.{arith}
use Rattle.states.proofs.amounts.plus.Goals as goal

pub loop-k-preserved : goal.loop-k-preserved
loop-k-preserved g c =
    let inv = c.loop-k.invariant in
    let k = c.loop-k.k in
    let number = get_or c.args.numbers.now (c.args.at + k) 0 in (
      length-set _ _ _ ∙ inv.0,
      λ j l.
          let other : j ≡ k → ⊥ = λ e. omega arith in
          get_or-set_other c.loop-k.out k j _ 0 other ∙ inv.1 j (omega arith),
      λ test decides.
          let counts : c.counts.result ≡ test k = decides _ _ (omega arith) c.counts.ensures in
          added_on _ _ _ _ k _ _ (omega arith) (c.amount.ensures.0 ∙ ap (λ (b : Bool). cond b number 0) counts)
          c.amount.ensures.1 (inv.2 test decides),
    )
