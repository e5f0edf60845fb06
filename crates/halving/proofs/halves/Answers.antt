-- `halves` meets its contract: three refusals, a half without a plan, and the day joined from both.
use Rattle.std.proofs.Common.{rules, Err, ◌≡◌, refl, sym, ap, ◌∙◌}
use Rattle.job.specs.declared.refusal.Refusal.TheVariants.{NoPlan}
use Rattle.job.proofs.Table.{value_given, no_value_given}
use Rattle.job.specs.Job.{job_in}
use Rattle.halving.specs.Halves.{FirstListed}
use Rattle.halving.proofs.WaysOut.{halves_refused, halves_foreign, halves_short_slice}
use Rattle.halving.proofs.Planning.{no_first, first_few, first_whole, first_accepted, no_second}
use Rattle.halving.proofs.Planning.{second_few, second_whole, both_joined}
use native.Mathlib.Omega.{arith}
use Rattle.halving.proofs.halves.Goals as goal

pub returns-in_err-validate : goal.returns-in_err-validate
returns-in_err-validate c =
    let e : c.from_residual.result ≡ Err c.in_err-validate.field-0.0 = search rules in
    halves_refused FirstListed (job_in c.args.job) c.args.halfway c.args.out.now _ _ e
    (sym c.validate.ensures ∙ c.in_err-validate.was)

pub returns-then-foreign : goal.returns-then-foreign
returns-then-foreign c =
    let valid = sym c.validate.ensures ∙ c.in_ok-validate.was in
    halves_foreign FirstListed (job_in c.args.job) c.args.halfway c.args.out.now _ valid refl
    (sym c.foreign.ensures.0 ∙ c.if-foreign.true)

pub returns-then-out-lt-BYTES : goal.returns-then-out-lt-BYTES
returns-then-out-lt-BYTES c =
    let valid = sym c.validate.ensures ∙ c.in_ok-validate.was in
    let own = sym c.foreign.ensures.0 ∙ c.if-foreign.false in
    halves_short_slice FirstListed (job_in c.args.job) c.args.halfway c.args.out.now _ valid own refl c.if-out-lt-BYTES.true

pub first_half-requires : goal.first_half-requires
first_half-requires c = (
  sym c.validate.ensures ∙ c.in_ok-validate.was,
  sym c.foreign.ensures.0 ∙ c.if-foreign.false,
)

pub returns-in_err-first : goal.returns-in_err-first
returns-in_err-first c =
    let valid = sym c.validate.ensures ∙ c.in_ok-validate.was in
    let own = sym c.foreign.ensures.0 ∙ c.if-foreign.false in
    let none = no_value_given c.flatten.result NoPlan _ (sym c.ok_or.ensures.value ∙ c.in_err-first.was) in
    let e : c.from_residual-in_err-first.result ≡ Err c.in_err-first.field-0.0 = search rules in
    no_first (job_in c.args.job) c.args.halfway c.args.out.now valid own c.first_half.result
    c.first_half.ensures c.if-out-lt-BYTES.false (sym c.flatten.ensures ∙ none.0) _ (e ∙ ap Err (sym none.1))

pub overflow_mul-morning : goal.overflow_mul-morning
overflow_mul-morning c =
    let valid = sym c.validate.ensures ∙ c.in_ok-validate.was in
    let own = sym c.foreign.ensures.0 ∙ c.if-foreign.false in
    let first = sym c.flatten.ensures ∙ value_given c.flatten.result NoPlan _ (sym c.ok_or.ensures.value ∙ c.in_ok-first.was) in
    let few = first_few (job_in c.args.job) c.args.halfway c.args.out.now valid own c.first_half.result
    c.first_half.ensures _ first in
    record { fits = omega arith }

pub slice_bounds-morning-end : goal.slice_bounds-morning-end
slice_bounds-morning-end c =
    let valid = sym c.validate.ensures ∙ c.in_ok-validate.was in
    let own = sym c.foreign.ensures.0 ∙ c.if-foreign.false in
    let first = sym c.flatten.ensures ∙ value_given c.flatten.result NoPlan _ (sym c.ok_or.ensures.value ∙ c.in_ok-first.was) in
    sym (first_whole (job_in c.args.job) c.args.halfway c.args.out.now valid own c.first_half.result
    c.first_half.ensures _ first)

pub second_half-requires : goal.second_half-requires
second_half-requires c =
    let valid = sym c.validate.ensures ∙ c.in_ok-validate.was in
    let own = sym c.foreign.ensures.0 ∙ c.if-foreign.false in
    let first = sym c.flatten.ensures ∙ value_given c.flatten.result NoPlan _ (sym c.ok_or.ensures.value ∙ c.in_ok-first.was) in (
      valid,
      first_accepted (job_in c.args.job) c.args.halfway c.args.out.now valid own c.first_half.result
          c.first_half.ensures _ first,
    )

pub returns-in_err-second : goal.returns-in_err-second
returns-in_err-second c =
    let valid = sym c.validate.ensures ∙ c.in_ok-validate.was in
    let own = sym c.foreign.ensures.0 ∙ c.if-foreign.false in
    let first = sym c.flatten.ensures ∙ value_given c.flatten.result NoPlan _ (sym c.ok_or.ensures.value ∙ c.in_ok-first.was) in
    let none = no_value_given c.flatten-2.result NoPlan _ (sym c.ok_or-2.ensures.value ∙ c.in_err-second.was) in
    let e : c.from_residual-in_err-second.result ≡ Err c.in_err-second.field-0.0 = search rules in
    no_second (job_in c.args.job) c.args.halfway c.args.out.now valid own c.first_half.result
    c.first_half.ensures _ first c.if-out-lt-BYTES.false
    c.second_half.result c.second_half.ensures (sym c.flatten-2.ensures ∙ none.0) _ (e ∙ ap Err (sym none.1))

pub overflow_mul-later : goal.overflow_mul-later
overflow_mul-later c =
    let valid = sym c.validate.ensures ∙ c.in_ok-validate.was in
    let own = sym c.foreign.ensures.0 ∙ c.if-foreign.false in
    let first = sym c.flatten.ensures ∙ value_given c.flatten.result NoPlan _ (sym c.ok_or.ensures.value ∙ c.in_ok-first.was) in
    let second = sym c.flatten-2.ensures ∙ value_given c.flatten-2.result NoPlan _ (sym c.ok_or-2.ensures.value ∙ c.in_ok-second.was) in
    let few = second_few (job_in c.args.job) c.args.halfway c.args.out.now valid own c.first_half.result
    c.first_half.ensures _ first c.if-out-lt-BYTES.false
    c.second_half.result c.second_half.ensures _ second in
    record { fits = omega arith }

pub slice_bounds-later-end : goal.slice_bounds-later-end
slice_bounds-later-end c =
    let valid = sym c.validate.ensures ∙ c.in_ok-validate.was in
    let own = sym c.foreign.ensures.0 ∙ c.if-foreign.false in
    let first = sym c.flatten.ensures ∙ value_given c.flatten.result NoPlan _ (sym c.ok_or.ensures.value ∙ c.in_ok-first.was) in
    let second = sym c.flatten-2.ensures ∙ value_given c.flatten-2.result NoPlan _ (sym c.ok_or-2.ensures.value ∙ c.in_ok-second.was) in
    sym (second_whole (job_in c.args.job) c.args.halfway c.args.out.now valid own c.first_half.result
    c.first_half.ensures _ first c.if-out-lt-BYTES.false
    c.second_half.result c.second_half.ensures _ second)

pub returns : goal.returns
returns c =
    let valid = sym c.validate.ensures ∙ c.in_ok-validate.was in
    let own = sym c.foreign.ensures.0 ∙ c.if-foreign.false in
    let first = sym c.flatten.ensures ∙ value_given c.flatten.result NoPlan _ (sym c.ok_or.ensures.value ∙ c.in_ok-first.was) in
    let second = sym c.flatten-2.ensures ∙ value_given c.flatten-2.result NoPlan _ (sym c.ok_or-2.ensures.value ∙ c.in_ok-second.was) in
    both_joined (job_in c.args.job) c.args.halfway c.args.out.now valid own c.first_half.result
    c.first_half.ensures _ first c.if-out-lt-BYTES.false
    c.second_half.result c.second_half.ensures _ second _ _ c.join.ensures
