-- `later_event` meets its contract: with no handover the starts themselves decide.
use native.Mathlib.Omega.{arith}
use native.Mathlib.Nat.{le_refl}
use Rattle.states.proofs.moves.later_event.Goals as goal

pub returns-then-handover-eq0 : goal.returns-then-handover-eq0
returns-then-handover-eq0 c =
    let zero = c.if-handover-eq0.true in
    (le_refl _, c.requires.1, λ none k l m a b e. none k l m a b (omega arith))

pub returns : goal.returns
returns c =
    let r = c.last_start.ensures in
    (r.0, r.1, λ none k l m a b e. r.2 k l m a b (omega arith))
