-- `listed` meets its contract: the steps are a plan, and without any one of them they are none.
use Rattle.std.specs.Prelude.{Option, Some, None, is_some}
use mathlib.Core.Path.{◌≡◌, ap}
use mathlib.Core.Bool.{false}
use Rattle.timeline.proofs.Tests.{not_both}
use Rattle.leaf.specs.declared.Answer.{Answer}
use Rattle.walker.proofs.Leaves.{plan_when_found, no_plan_when_none, known_steps}
use Rattle.walker.proofs.ListedTests.{listed_when_none_dropped, plan_when_listed, none_dropped_when_listed}
use Rattle.walker.proofs.ListedTests.{tells_of_steps}
use Rattle.walker.proofs.visit.listed.Goals as goal

pub returns-in_err-answer : goal.returns-in_err-answer
returns-in_err-answer c =
    rw c.from_residual.ensures
    (record {
      found = λ a e. cc;
      none = λ e J asked kept rising listed.
          no_plan_when_none J _ c.args.frame asked.in_file asked.actions asked.passed c.args.steps kept
          c.finish.result c.finish.ensures asked.goal asked.in_time c.in_err-answer.was
          (plan_when_listed J _ c.args.frame asked c.args.steps kept rising listed);
    })

pub returns-then-not-none_dropped : goal.returns-then-not-none_dropped
returns-then-not-none_dropped c =
    record {
      found = λ a e. cc;
      none = λ e J asked kept rising listed.
          let some = c.none_dropped.ensures.some (c.if-not-none_dropped.true) J asked kept in
          none_dropped_when_listed J _ c.args.frame asked c.args.steps kept rising listed some.0 some.1
          some.2;
    }

pub returns : goal.returns
returns c =
    let a = c.in_ok-answer.answer in
    let f = c.in_ok-answer.was in
    record {
      found = λ b e J asked kept rising. (
        listed_when_none_dropped J _ c.args.frame asked c.args.steps kept rising
            (plan_when_found J _ c.args.frame asked.in_file asked.actions asked.passed c.args.steps kept
            c.finish.result c.finish.ensures a f)
            (c.none_dropped.ensures.none (c.if-not-none_dropped.false) J asked kept),
        let have = known_steps J c.args.frame asked.actions c.args.steps kept in
            let same : a ≡ b = cc in
            rw (← same)
            (tells_of_steps J _ c.args.frame asked c.args.steps kept rising a
            (c.finish.ensures.found a f J asked.in_file)
            (c.finish.ensures.same a f J asked.in_file have kept.starts)
            (c.finish.ensures.bytes a f J asked.in_file have kept.starts)),
      );
      none = λ e. cc;
    }
