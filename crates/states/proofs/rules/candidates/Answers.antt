-- `candidates` meets its contract: the actions before the next one are found or barred.
use mathlib.Core.Path.{ap, ◌∙◌}
use Rattle.facts.specs.declared.members.Members.{Members}
use Rattle.states.proofs.CandidateLaws.{candidates_at_first, candidates_on}
use Rattle.states.proofs.rules.candidates.Goals as goal

pub loop-k-init : goal.loop-k-init
loop-k-init c =
    let gives = c.into_iter-k-iterator.ensures.into_iter_gives in
    let made = c.of-k-items.ensures in (
      ap (λ (s : Members). s.set) gives ∙ made.0,
      candidates_at_first _ _ _ _ _ _ (ap (λ (s : Members). s.from) gives ∙ made.1),
    )

pub loop-k-preserved : goal.loop-k-preserved
loop-k-preserved c =
    let inv = c.loop-k.invariant in
    let step = c.in-Some.ensures.steps in (
      step.0 ∙ inv.0,
      rw step.1.2
          (candidates_on _ _ _ _ _ c.loop-k.k-iterator.from c.in-Some.k _ _ step.1.0 (rw inv.0 at step.1.1)
          c.with_candidate-found.ensures inv.1),
    )
