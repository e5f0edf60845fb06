-- `form_in` meets its contract: the first offset is compared.
use mathlib.Core.Path.{sym, ◌∙◌}
use borrow.Author.Tests.{eq-eqb, ne_eqb}
use Rattle.reader.proofs.form_in.Goals as goal

pub returns-then-first-eq-FIVE_ENTRIES : goal.returns-then-first-eq-FIVE_ENTRIES
returns-then-first-eq-FIVE_ENTRIES c = rw (eq-eqb _ 20 (sym c.short-first.ensures.0 ∙ c.if-first-eq-FIVE_ENTRIES.true))

pub returns-then-first-eq-SIX_ENTRIES : goal.returns-then-first-eq-SIX_ENTRIES
returns-then-first-eq-SIX_ENTRIES c =
    rw (
      ne_eqb _ 20 (λ e. c.if-first-eq-FIVE_ENTRIES.false (c.short-first.ensures.0 ∙ e)),
      eq-eqb _ 24 (sym c.short-first.ensures.0 ∙ c.if-first-eq-SIX_ENTRIES.true),
    )

pub returns : goal.returns
returns c =
    rw (
      ne_eqb _ 20 (λ e. c.if-first-eq-FIVE_ENTRIES.false (c.short-first.ensures.0 ∙ e)),
      ne_eqb _ 24 (λ e. c.if-first-eq-SIX_ENTRIES.false (c.short-first.ensures.0 ∙ e)),
    )
