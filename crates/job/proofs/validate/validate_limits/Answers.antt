-- `validate_limits` meets its contract: each return has the tests before it passed, and its own failed.
use borrow.Author.Tests.{lt-ltb, le-ltb}
use Rattle.job.specs.Refusal.{first}
use Rattle.job.proofs.Rows.{rows_of_value, fits_of_counts}
use Rattle.job.proofs.Values.{few_handovers_lem}
use native.Mathlib.Omega.{arith}
use Rattle.job.proofs.validate.validate_limits.Goals as goal

pub returns-then-counts : goal.returns-then-counts
unfolding first
returns-then-counts c = rw (rows_of_value, c.if-counts.true)

pub returns-then-job-gt-FACTS : goal.returns-then-job-gt-FACTS
unfolding first
returns-then-job-gt-FACTS c = rw (rows_of_value, c.if-counts.false, lt-ltb _ _ c.if-job-gt-FACTS.true)

pub returns-then-job-gt-DEADLINE : goal.returns-then-job-gt-DEADLINE
unfolding first
returns-then-job-gt-DEADLINE c =
    let c-if1 = c.if-counts in
    rw (rows_of_value, c-if1.false, le-ltb _ _ c.if-job-gt-FACTS.false, lt-ltb _ _ c.if-job-gt-DEADLINE.true)

pub returns-then-reserve-gt-RESERVE : goal.returns-then-reserve-gt-RESERVE
unfolding first
returns-then-reserve-gt-RESERVE c =
    let c-if1 = c.if-counts in
    let c-if2 = c.if-job-gt-FACTS in
    let e31 = lt-ltb _ _ (rw c.reserve.ensures at c.if-reserve-gt-RESERVE.true) in
    rw (rows_of_value, c-if1.false, le-ltb _ _ c-if2.false, le-ltb _ _ c.if-job-gt-DEADLINE.false, e31)

pub returns-then-foreign : goal.returns-then-foreign
unfolding first
returns-then-foreign c =
    let c-if1 = c.if-counts in
    let c-if2 = c.if-job-gt-FACTS in
    let c-if3 = c.if-job-gt-DEADLINE in
    let c-reserve = c.reserve in
    let c-if4 = c.if-reserve-gt-RESERVE in
    let e31 = le-ltb _ _ (rw c-reserve.ensures at c-if4.false) in
    let e4 = rw (c.foreign.ensures.0, c.foreign-2.ensures.0) at c.if-foreign.true in
    rw (rows_of_value, c-if1.false, le-ltb _ _ c-if2.false, le-ltb _ _ c-if3.false, e31, e4)

pub any_over-requires : goal.any_over-requires
any_over-requires c =
    let c-args = c.args in
    let c-if1 = c.if-counts in
    (fits_of_counts c-args.job.counts c-if1.false).0

pub any_over-requires-2 : goal.any_over-requires-2
any_over-requires-2 c =
    let c-args = c.args in
    let c-if1 = c.if-counts in
    (fits_of_counts c-args.job.counts c-if1.false).1

pub returns-then-any_over : goal.returns-then-any_over
unfolding first
returns-then-any_over c =
    let c-if1 = c.if-counts in
    let c-if2 = c.if-job-gt-FACTS in
    let c-if3 = c.if-job-gt-DEADLINE in
    let c-reserve = c.reserve in
    let c-if4 = c.if-reserve-gt-RESERVE in
    let c-foreign = c.foreign in
    let c-foreign2 = c.foreign-2 in
    let c-if5 = c.if-foreign in
    let e31 = le-ltb _ _ (rw c-reserve.ensures at c-if4.false) in
    let e4 = rw (c-foreign.ensures.0, c-foreign2.ensures.0) at c-if5.false in
    let e5 = rw (c.any_over.ensures, c.any_over-2.ensures) at c.if-any_over.true in
    rw (rows_of_value, c-if1.false, le-ltb _ _ c-if2.false, le-ltb _ _ c-if3.false, e31, e4, e5)

pub any_too_long-requires : goal.any_too_long-requires
any_too_long-requires c =
    let c-args = c.args in
    let c-if1 = c.if-counts in
    let job = c-args.job in
    let few = (fits_of_counts job.counts c-if1.false).0 in
    let count = few_handovers_lem job.form job.counts.pools in
    rw c.handovers.ensures (omega arith)

pub returns-then-any_too_long : goal.returns-then-any_too_long
unfolding first
returns-then-any_too_long c =
    let c-if1 = c.if-counts in
    let c-if2 = c.if-job-gt-FACTS in
    let c-if3 = c.if-job-gt-DEADLINE in
    let c-reserve = c.reserve in
    let c-if4 = c.if-reserve-gt-RESERVE in
    let c-foreign = c.foreign in
    let c-foreign2 = c.foreign-2 in
    let c-if5 = c.if-foreign in
    let c-any-over = c.any_over in
    let c-any-over2 = c.any_over-2 in
    let c-if6 = c.if-any_over in
    let e31 = le-ltb _ _ (rw c-reserve.ensures at c-if4.false) in
    let e4 = rw (c-foreign.ensures.0, c-foreign2.ensures.0) at c-if5.false in
    let e5 = rw (c-any-over.ensures, c-any-over2.ensures) at c-if6.false in
    let e27 = rw (c.any_too_long.ensures, c.handovers.ensures) at c.if-any_too_long.true in
    rw (rows_of_value, c-if1.false, le-ltb _ _ c-if2.false, le-ltb _ _ c-if3.false, e31, e4, e5, e27)

pub validate_actions-requires : goal.validate_actions-requires
validate_actions-requires c =
    let c-args = c.args in
    let c-if1 = c.if-counts in
    fits_of_counts c-args.job.counts c-if1.false

pub returns : goal.returns
unfolding first
returns c =
    let c-if1 = c.if-counts in
    let c-if2 = c.if-job-gt-FACTS in
    let c-if3 = c.if-job-gt-DEADLINE in
    let c-reserve = c.reserve in
    let c-if4 = c.if-reserve-gt-RESERVE in
    let c-foreign = c.foreign in
    let c-foreign2 = c.foreign-2 in
    let c-if5 = c.if-foreign in
    let c-any-over = c.any_over in
    let c-any-over2 = c.any_over-2 in
    let c-if6 = c.if-any_over in
    let c-handovers2 = c.handovers in
    let e31 = le-ltb _ _ (rw c-reserve.ensures at c-if4.false) in
    let e4 = rw (c-foreign.ensures.0, c-foreign2.ensures.0) at c-if5.false in
    let e5 = rw (c-any-over.ensures, c-any-over2.ensures) at c-if6.false in
    let e27 = rw (c.any_too_long.ensures, c-handovers2.ensures) at c.if-any_too_long.false in
    rw (rows_of_value, c-if1.false, le-ltb _ _ c-if2.false, le-ltb _ _ c-if3.false, e31, e4, e5, e27)
    c.validate_actions.ensures
