-- `validate_actions` meets its contract: each return has the tests before it passed, and its own failed.
use mathlib.Core.Path.{sym, ◌∙◌}
use Rattle.job.specs.Job.{job_in}
use Rattle.job.specs.Refusal.{first}
use Rattle.job.proofs.BrokenLaws.{rows_of_broken}
use Rattle.job.proofs.validate.validate_actions.Goals as goal

pub returns-then-broken : goal.returns-then-broken
unfolding first
returns-then-broken c =
    rw (sym (rows_of_broken (job_in c.args.job) _ c.any_broken-broken.ensures), c.if-broken.true)

pub returns-then-any_wrong_range : goal.returns-then-any_wrong_range
unfolding first
returns-then-any_wrong_range c =
    let c-args = c.args in
    let c-any-broken = c.any_broken-broken in
    rw (
      sym (rows_of_broken (job_in c-args.job) _ c-any-broken.ensures),
      c.if-broken.false,
      sym c.any_wrong_range.ensures ∙ c.if-any_wrong_range.true,
    )

pub returns-then-broken-2 : goal.returns-then-broken-2
unfolding first
returns-then-broken-2 c =
    let c-args = c.args in
    let c-any-broken = c.any_broken-broken in
    let c-if1 = c.if-broken in
    rw (
      sym (rows_of_broken (job_in c-args.job) _ c-any-broken.ensures),
      c-if1.false,
      sym c.any_wrong_range.ensures ∙ c.if-any_wrong_range.false,
      c.if-broken-2.true,
    )

pub returns-then-broken-3 : goal.returns-then-broken-3
unfolding first
returns-then-broken-3 c =
    let c-args = c.args in
    let c-any-broken = c.any_broken-broken in
    let c-if1 = c.if-broken in
    let c-any-wrong-range = c.any_wrong_range in
    rw (
      sym (rows_of_broken (job_in c-args.job) _ c-any-broken.ensures),
      c-if1.false,
      sym c-any-wrong-range.ensures ∙ c.if-any_wrong_range.false,
      c.if-broken-2.false,
      c.if-broken-3.true,
    )

pub returns-then-broken-4 : goal.returns-then-broken-4
unfolding first
returns-then-broken-4 c =
    let c-args = c.args in
    let c-any-broken = c.any_broken-broken in
    let c-if1 = c.if-broken in
    let c-any-wrong-range = c.any_wrong_range in
    let c-if2 = c.if-any_wrong_range in
    rw (
      sym (rows_of_broken (job_in c-args.job) _ c-any-broken.ensures),
      c-if1.false,
      sym c-any-wrong-range.ensures ∙ c-if2.false,
      c.if-broken-2.false,
      c.if-broken-3.false,
      c.if-broken-4.true,
    )

pub returns : goal.returns
unfolding first
returns c =
    let c-args = c.args in
    let c-any-broken = c.any_broken-broken in
    let c-if1 = c.if-broken in
    let c-any-wrong-range = c.any_wrong_range in
    let c-if2 = c.if-any_wrong_range in
    rw (
      sym (rows_of_broken (job_in c-args.job) _ c-any-broken.ensures),
      c-if1.false,
      sym c-any-wrong-range.ensures ∙ c-if2.false,
      c.if-broken-2.false,
      c.if-broken-3.false,
      c.if-broken-4.false,
    )
