-- `wrong_lengths` meets its contract: the first i lengths are within their ranges.
use Prim.Native.Nat.{ℕ}
use mathlib.Core.Path.{◌≡◌, sym, ap, ◌∙◌}
use mathlib.Core.Bool.{Bool, true}
use lib.ListN.{get_or}
use Rattle.lists.proofs.Below.{below_found, none_below}
use Rattle.lists.proofs.Tabulate.{length_tabulate}
use Rattle.job.specs.declared.Counts.{Counts}
use Rattle.job.specs.Job.{job_in}
use Rattle.timeline.specs.TrueLengths.{outside_range}
use Rattle.timeline.specs.Value.{beyond_step, step_of_value, step_at, steps_of}
use Rattle.true_day.proofs.ByPlace.{wrong_number, wrong_by_place}
use native.Mathlib.Omega.{arith}
use Rattle.true_day.proofs.wrong_lengths.Goals as goal

pub returns-then-lengths-plan : goal.returns-then-lengths-plan
returns-then-lengths-plan c =
    let count = length_tabulate c.args.plan.length (step_at c.args.plan) in
    sym (wrong_number (job_in c.args.job) (steps_of c.args.plan) c.args.lengths.now
    (λ e. c.if-lengths-plan.true (e ∙ count)))

pub returns-then-outside_range : goal.returns-then-outside_range
returns-then-outside_range c =
    let a = c.args in
    let i = c.loop-i.i in
    let n = a.plan.length in
    let test : ℕ → Bool = λ k. outside_range (job_in a.job) (step_at a.plan k) (get_or a.lengths.now k 0) in
    let here : test i ≡ true =
    ap (λ (m : Counts). outside_range (job_in a.job) (step_of_value m (get_or a.plan.steps i beyond_step))
    (get_or a.lengths.now i 0)) c.requires.counts
    ∙ sym c.outside_range.ensures ∙ c.if-outside_range.true in
    sym (wrong_by_place (job_in a.job) n (step_at a.plan) a.lengths.now c.if-lengths-plan.false
    ∙ below_found n test i c.loop-i-test.true here)

pub returns : goal.returns
returns c =
    let a = c.args in
    let n = a.plan.length in
    let test : ℕ → Bool = λ k. outside_range (job_in a.job) (step_at a.plan k) (get_or a.lengths.now k 0) in
    sym (wrong_by_place (job_in a.job) n (step_at a.plan) a.lengths.now c.if-lengths-plan.false
    ∙ none_below n test (λ k l. c.loop-i.invariant k (omega arith)))
