-- `descend` meets its contract: between `bound` and the plan's end lies the least end.
use native.Mathlib.Omega.{arith}
use Rattle.search.proofs.horizons.descend.Goals as goal

pub loop-bound-init : goal.loop-bound-init
loop-bound-init c =
    let h = c.requires in (h.1, (λ J task passed before. before), λ f. f)

pub halve-next-requires : goal.halve-next-requires
halve-next-requires c =
    let h = c.requires in let inv = c.loop-bound.invariant in (h.0, omega arith, inv.0)

pub loop-bound-smaller : goal.loop-bound-smaller
loop-bound-smaller c =
    let n = c.halve-next.ensures.closer in let a = n.0 in let b = n.1 in let d = n.2 in omega arith

pub loop-bound-preserved : goal.loop-bound-preserved
loop-bound-preserved c =
    let inv = c.loop-bound.invariant in
    let i = inv.0 in
    let n = c.halve-next.ensures in
    let b = n.closer.1 in (
      omega arith,
      (λ J task passed before. n.raised J task passed (inv.1 J task passed before)),
      λ f. n.found (inv.2 f),
    )

pub returns : goal.returns
returns c =
    let inv = c.loop-bound.invariant in
    record {
      found = inv.2;
      raised = λ J task passed before bytes accepted counts.
          let l = inv.1 J task passed before bytes accepted counts in omega arith;
    }
