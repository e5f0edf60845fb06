-- `share` meets its contract: before the step starts, once the share is free again, and in between.
use Prim.Native.Nat.{◌+◌}
use mathlib.Core.Path.{sym, ◌∙◌}
use lib.ListN.{get_or}
use Rattle.lists.proofs.Tabulate.{get_d_tabulate}
use Rattle.timeline.specs.Value.{step_of_value}
use Rattle.checker.proofs.ShareLaws.{no_share_before, no_share_after, share_while_held}
use native.Mathlib.Omega.{arith}
use borrow.Author.Tests.{leb-true, leb-false}
use Rattle.checker.proofs.pools.share.Goals as goal

pub returns-then-minute-step : goal.returns-then-minute-step
returns-then-minute-step c =
    let a = c.args in
    record {
      counts = λ J n e h. sym (no_share_before J a.pool a.minute _ (step_of_value n a.step) c.if-minute-step.true);
      small = omega arith;
    }

pub returns-then-freed : goal.returns-then-freed
returns-then-freed c =
    let a = c.args in
    let over = leb-true (a.step.stop + a.handover) a.minute (sym c.freed.ensures ∙ c.if-freed.true) in
    record {
      counts = λ J n e h. sym (no_share_after J a.pool a.minute _ (step_of_value n a.step) (rw e over));
      small = omega arith;
    }

pub returns : goal.returns
returns c =
    let a = c.args in
    let held = leb-false (a.step.stop + a.handover) a.minute
    (sym c.freed.ensures ∙ c.if-freed.false) in
    record {
      counts = λ J n e h.
          c.from.ensures
          ∙ sym (share_while_held J a.pool a.minute _ (step_of_value n a.step) c.if-minute-step.false (rw e held)
          ∙ get_d_tabulate n.pools (λ k. get_or a.step.action.pools k 0) a.pool 0 h);
      small = omega arith;
    }
