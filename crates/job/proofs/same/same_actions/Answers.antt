-- `same_actions` meets its contract: the actions before place i agree.
use mathlib.Core.Path.{ap}
use native.Mathlib.Omega.{arith}
use Rattle.job.specs.Job.{beyond, action_in}
use Rattle.job.proofs.Answers.{decides_not}
use Rattle.job.proofs.Agree.{same_past_end, differ, agree}
use Rattle.job.proofs.same.same_actions.Goals as goal

pub returns-then-not-same_action : goal.returns-then-not-same_action
returns-then-not-same_action c =
    differ _ _ c.loop-i.i _ (grind (arith, c.min-i-end.ensures, c.loop-i-test.true))
    (decides_not c.same_action.ensures c.if-not-same_action.true)

pub returns : goal.returns
returns c =
    let g = c.well_formed.1 in
    let past = same_past_end c.args.a c.args.b beyond 64 g.0.1.0.1 g.1.0.1.0.1 in
    agree _ _ c.loop-i.i _ 64 c.loop-i.invariant (λ k l. ap (action_in c.args.counts) (past k l))
    (grind (arith, c.min-i-end.ensures, c.loop-i-test.false))
