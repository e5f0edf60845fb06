-- `clashes` meets its contract: no two of the first i steps clash.
use Prim.Native.Nat.{◌+◌}
use mathlib.Core.Path.{◌≡◌, refl, sym, ◌∙◌}
use Rattle.lists.specs.Lists.{tabulate}
use Rattle.lists.proofs.Bools.{or-true}
use Rattle.job.specs.declared.refusal.Refusal.TheVariants.{Clash}
use Rattle.job.specs.Refusal.{first}
use Rattle.job.proofs.Table.{first_here, first_next}
use mathlib.Core.List.{[]}
use Rattle.timeline.specs.Accepted.{clashing}
use Rattle.timeline.specs.Value.{step_at}
use Rattle.checker.proofs.Loops.{pair_more, pair_found}
use native.Mathlib.Omega.{arith}
use Rattle.checker.proofs.rules.clashes.Goals as goal

pub loop-i-init : goal.loop-i-init
unfolding tabulate
loop-i-init c = refl

pub returns-then-clashes_earlier : goal.returns-then-clashes_earlier
returns-then-clashes_earlier c =
    let p = c.args.plan in
    let i = c.loop-i.i in
    let found = sym c.clashes_earlier.ensures ∙ c.if-clashes_earlier.true in
    sym (first_here Clash _ []
    (pair_found (step_at p) clashing (i + 1) p.length (omega arith)
    (pair_more (step_at p) clashing i ∙ rw (found, or-true))))

pub loop-i-preserved : goal.loop-i-preserved
loop-i-preserved c =
    let p = c.args.plan in pair_more (step_at p) clashing c.loop-i.i ∙ rw (
      c.loop-i.invariant,
      sym c.clashes_earlier.ensures
          ∙ c.if-clashes_earlier.false,
    )

pub returns : goal.returns
unfolding first
returns c =
    let e : c.loop-i.i ≡ c.args.plan.length = omega arith in
    sym (first_next Clash _ [] (rw e at c.loop-i.invariant))
