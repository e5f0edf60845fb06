-- `all_needed` meets its contract: a step that adds nothing alone makes a dead end.
use Prim.Native.Nat.{ℕ}
use mathlib.Core.Path.{sym, ap, ◌∙◌}
use lib.ListN.{get_or}
use Rattle.facts.specs.FactSet.{difference, meets}
use Rattle.tables.specs.Tables.{adds_at}
use Rattle.pruning.proofs.StateTests.{dead_when_adding_nothing_alone}
use native.Mathlib.Omega.{arith}
use Rattle.pruning.proofs.tests.all_needed.Goals as goal

pub returns-then-not-adds_alone : goal.returns-then-not-adds_alone
returns-then-not-adds_alone c =
    λ e numbers frame known_steps J described stands.
    let at = c.args in
    let i = get_or at.st.steps.numbers c.loop-k.k 0 in
    let none = ap (λ (set : ℕ). meets (difference (adds_at at.sets.now i) set) at.st.wanted)
    (sym c.union-provided.ensures.0)
    ∙ sym c.adds_alone.ensures ∙ c.if-not-adds_alone.true in
    dead_when_adding_nothing_alone J at.sets.now numbers frame described at.st known_steps stands
    c.loop-k.k (omega arith) c.loop-k-test.true none
