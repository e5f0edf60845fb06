-- `last_start` meets its contract: no start of the steps gone over, less the handover, lies between.
use mathlib.Core.Path.{◌∙◌}
use borrow.Author.Count.{below_more}
use native.Mathlib.Omega.{arith}
use Rattle.std.proofs.lemmas.List.{get_or-take}
use Rattle.states.proofs.moves.last_start.Goals as goal

pub loop-start-preserved : goal.loop-start-preserved
loop-start-preserved c =
    let inv = c.loop-start.invariant in
    let r = c.later_start-r.ensures in
    let r0 = r.0 in
    let less = c.saturating_sub.ensures in (
      omega arith,
      r.1,
      below_more _ _ (λ j l e b q. let early = inv.2 j l e b q in omega arith)
          (λ e b q. let late = r.2 (omega arith) in omega arith),
    )

pub returns : goal.returns
returns c =
    let inv = c.loop-start.invariant in
    let few = c.requires.0 in (
      inv.0,
      inv.1,
      λ k l m a b e. let late = inv.2 k (omega arith) m b (get_or-take _ _ _ _ l ∙ e) in omega arith,
    )
