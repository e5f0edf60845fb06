-- `with_lengths` meets its contract: the first i steps have their new lengths.
use Rattle.std.proofs.Common.{◌≡◌, refl, sym, ◌∙◌}
use Rattle.lists.proofs.Tabulate.{tabulate_same}
use Rattle.timeline.specs.Value.{step_at}
use Rattle.true_day.proofs.ByPlace.{with_lengths_by_place}
use native.Mathlib.Omega.{arith}
use Rattle.true_day.proofs.with_lengths.Goals as goal

pub returns : goal.returns
returns c =
    let a = c.args in
    let l = c.loop-i in
    let e : l.i ≡ a.plan.length = omega arith in (
      refl,
      refl,
      tabulate_same _ _ _ (λ k h. l.invariant.1 k (omega arith))
          ∙ sym (with_lengths_by_place a.plan.length (step_at a.plan) a.lengths.now (sym c.requires.1)),
    )
