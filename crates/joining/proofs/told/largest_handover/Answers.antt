-- `largest_handover` meets its contract: the largest over all pools.
use Rattle.std.proofs.Common.{◌≡◌, ℕ, get_or, take, length, rules, arith, sym, ap, ◌∙◌}
use Rattle.std.proofs.lemmas.List.{get_or-take, length-take}
use Rattle.lists.proofs.Tabulate.{length_tabulate}
use Rattle.job.specs.Job.{job_in}
use Rattle.job.specs.Resources.{handover}
use Rattle.timeline.specs.Timeline.{largest_below}
use Rattle.joining.proofs.Telling.{largest_same}
use Rattle.joining.proofs.told.largest_handover.Goals as goal

pub returns : goal.returns
returns c =
    let job = c.args.job in
    let J = job_in job in
    let n = job.counts.pools in
    let array = c.handovers-handovers.result in
    let count = length_tabulate n (λ k. get_or job.pools k 0) in
    let four : length array ≡ 4 = search rules in
    let all : c.loop-handover.handover-index ≡ n = omega (arith, length-take n array) in
    let front : ℕ → ℕ = λ k. get_or (take n array) k 0 in
    c.loop-handover.invariant
    ∙ ap (λ (m : ℕ). largest_below m front) all
    ∙ largest_same n front (handover J)
    (λ k l. get_or-take n array k 0 l ∙ c.handovers-handovers.ensures k (omega arith))
    ∙ ap (λ (m : ℕ). largest_below m (handover J)) (sym count)
