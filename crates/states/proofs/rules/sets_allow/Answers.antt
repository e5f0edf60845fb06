-- `sets_allow` meets its contract, test by test.
use Prim.Native.Nat.{ℕ}
use mathlib.Core.Path.{◌≡◌, sym, ap, ◌∙◌}
use mathlib.Core.Bool.{true≢false}
use borrow.Author.Tests.{not-false}
use Rattle.facts.specs.FactSet.{union, difference, meets}
use Rattle.tables.specs.Tables.{adds_at, needs_at}
use Rattle.states.proofs.BarredActions.{barred_when_adding_nothing_wanted, barred_when_clashing}
use Rattle.states.proofs.BarredActions.{barred_when_provided, barred_when_deleting}
use Rattle.states.proofs.rules.sets_allow.Goals as goal

pub returns-then-not-meets : goal.returns-then-not-meets
returns-then-not-meets c =
    let at = c.args in
    let none = sym c.meets.ensures.0 ∙ c.if-not-meets.true in
    record {
      apart = λ e. absurd (true≢false (sym e));
      barred = λ e numbers frame l known J d s f.
          barred_when_adding_nothing_wanted J at.sets.now numbers frame d at.st known s at.i l f none;
    }

pub returns-then-meets : goal.returns-then-meets
returns-then-meets c =
    let at = c.args in
    let some = sym c.meets-2.ensures.0 ∙ c.if-meets.true in
    record {
      apart = λ e. absurd (true≢false (sym e));
      barred = λ e numbers frame l known J d s f.
          barred_when_clashing J at.sets.now numbers frame d at.st known s at.i l f some;
    }

pub returns-then-not-meets-2 : goal.returns-then-not-meets-2
returns-then-not-meets-2 c =
    let at = c.args in
    let apart = sym c.meets-2.ensures.0 ∙ c.if-meets.false in
    let given : c.union-provided.result
    ≡ union (union at.st.at.held at.st.at.added) (needs_at at.sets.now at.i) =
    c.union-provided.ensures.0 ∙ ap (λ (s : ℕ). union s (needs_at at.sets.now at.i)) c.union.ensures.0 in
    let rest = c.difference.ensures.0 ∙ ap (difference (adds_at at.sets.now at.i)) given in
    let none = ap (λ (s : ℕ). meets s at.st.wanted) (sym rest)
    ∙ sym c.meets-3.ensures.0 ∙ c.if-not-meets-2.true in
    record {
      apart = λ e. absurd (true≢false (sym e));
      barred = λ e numbers frame l known J d s f.
          barred_when_provided J at.sets.now numbers frame d at.st known s at.i l f apart none;
    }

pub returns : goal.returns
returns c =
    let at = c.args in
    let apart = sym c.meets-2.ensures.0 ∙ c.if-meets.false in
    record {
      apart = λ e. apart;
      barred = λ e numbers frame l known J d s f.
          barred_when_deleting J at.sets.now numbers frame d at.st known s at.i l f
          (sym c.meets-4.ensures.0 ∙ not-false c.meets-4.result e);
    }
