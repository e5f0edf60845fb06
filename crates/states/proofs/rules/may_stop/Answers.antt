-- `may_stop` meets its contract, test by test.
use mathlib.Core.Path.{sym}
use mathlib.Core.Bool.{true≢false}
use Rattle.states.proofs.rules.may_stop.Goals as goal

pub returns-then-not-sets_allow : goal.returns-then-not-sets_allow
returns-then-not-sets_allow c =
    let h = c.requires in
    let at = c.args in
    record {
      room = λ e. absurd (true≢false (sym e));
      fits = λ e. absurd (true≢false (sym e));
      apart = λ e. absurd (true≢false (sym e));
      barred = λ e.
          c.sets_allow.ensures.barred (c.if-not-sets_allow.true) at.numbers.now
          at.frame h.1 h.0.known;
    }
