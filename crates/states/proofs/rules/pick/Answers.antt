-- `pick` meets its contract: what is kept is a member.
use mathlib.Core.Path.{ap, ◌∙◌}
use native.Mathlib.Omega.{arith}
use Rattle.facts.specs.declared.members.Members.{Members}
use Rattle.states.proofs.CandidateLaws.{first_member}
use Rattle.states.proofs.rules.pick.Goals as goal

pub loop-k-init : goal.loop-k-init
loop-k-init c =
    let next = c.next-longest.ensures in
    let member = first_member c.args.left _ c.requires.1 (omega arith) next in
    let same = ap (λ (s : Members). s.set) c.into_iter-k-iterator.ensures.into_iter_gives ∙ c.of-k-items.ensures.0 in
    (same, member, next.found member)
