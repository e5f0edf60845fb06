-- `closed_at` meets its contract: at hand, or within what the adders need.
use Prim.Native.Nat.{ℕ}
use mathlib.Core.Path.{sym, ap, ◌∙◌}
use borrow.Author.Tests.{eqb-true}
use Rattle.facts.specs.FactSet.{has, union}
use Rattle.landmarks.proofs.TableLaws.{closed_at_hand, closed_by_adders}
use Rattle.landmarks.proofs.marks.closed_at.Goals as goal

pub returns-then-has : goal.returns-then-has
returns-then-has c =
    λ e. closed_at_hand c.args.sets.now _ _ _ (eqb-true _ _ e)

pub returns : goal.returns
returns c =
    λ e.
    let at = c.args in
    let away = sym c.has.ensures ∙ c.if-has.false in
    let inside = c.subset.ensures.1.sound e in
    let is = c.union.ensures.0 ∙ ap (λ (set : ℕ). union set c.of_adders.result) c.single.ensures in
    closed_by_adders at.sets.now at.actions at.start at.q away c.of_adders.result c.of_adders.ensures
    (λ n h. ap (λ (set : ℕ). has set n) (sym is) ∙ inside n h)
