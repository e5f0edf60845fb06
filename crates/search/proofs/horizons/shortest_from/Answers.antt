-- `shortest_from` meets its contract: the bounds start at the given minute and at the first plan found.
use Rattle.std.proofs.Common.{arith, ◌≡◌}
use Rattle.search.proofs.horizons.shortest_from.Goals as goal

pub returns-in_err-rise : goal.returns-in_err-rise
returns-in_err-rise c =
    rw c.from_residual.ensures (record { found = λ a e. cc; none = λ e. c.ascend.ensures.none c.in_err-rise.was })

pub returns-then-wide-answer : goal.returns-then-wide-answer
returns-then-wide-answer c =
    let w = c.wide.ensures.0 in
    let late = c.if-wide-answer.true in
    record {
      found = λ a e. cc;
      none = λ e J task passed bytes accepted counts.
          let early = (c.ascend.ensures.found _ c.in_ok-rise.was J task passed).plan.in_time in absurd (omega arith);
    }

pub descend-requires : goal.descend-requires
descend-requires c =
    let w = c.wide.ensures.0 in
    let early = c.if-wide-answer.false in
    (c.requires.0, omega arith)

pub returns : goal.returns
returns c =
    let up = c.ascend.ensures in
    let down = c.descend.ensures in
    record {
      found = λ a e J task passed none. let same : c.descend.result ≡ a = cc in
          rw (← same) (
            down.found (up.found _ c.in_ok-rise.was) J task passed,
            down.raised J task passed (up.raised _ c.in_ok-rise.was J task passed none),
          );
      none = λ e. cc;
    }
