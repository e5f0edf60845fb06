-- `added_while` meets its contract: nothing, or what the action adds where its step stops in time.
use Prim.Native.Nat.{ℕ}
use mathlib.Core.Path.{sym, ap, ◌∙◌}
use lib.Dec.{ltb, leb}
use borrow.Author.Tests.{ltb-true, leb-true}
use Rattle.lists.proofs.Bools.{and_left, and_right}
use Rattle.facts.specs.FactSet.{has}
use Rattle.facts.proofs.Membership.{has_zero}
use Rattle.timeline.proofs.Tests.{not_both}
use Rattle.regression.proofs.Gathered.{in_cond_parts}
use native.Mathlib.Omega.{arith}
use Rattle.walker.proofs.spare.added_while.Goals as goal

pub returns-then-a-b : goal.returns-then-a-b
returns-then-a-b c = λ p h. not_both h (has_zero p)

pub returns : goal.returns
returns c =
    λ p h.
    let parts = in_cond_parts _ _ p (sym (ap (λ (set : ℕ). has set p) c.when.ensures) ∙ h) in
    let stop = c.stop-own.ensures.0 in
    let after = ltb-true c.from.result c.stop-own.result (and_left (ltb c.from.result c.stop-own.result) (leb c.stop-own.result c.args.stop) parts.0) in
    let by = leb-true c.stop-own.result c.args.stop (and_right (ltb c.from.result c.stop-own.result) (leb c.stop-own.result c.args.stop) parts.0) in
    record { other = c.if-a-b.false; after = omega arith; by = omega arith; adds = parts.1 }
