-- `may_join` meets its contract, test by test.
use mathlib.Core.Path.{sym, ap₂, ◌∙◌}
use mathlib.Core.Bool.{◌||◌}
use Rattle.times.specs.Earliest.{fit_together}
use Rattle.earliest.proofs.AllowedActions.{fit_together_in_lem}
use Rattle.earliest.proofs.AllowedActions.{not_joined_clashing, joined_when_fitting}
use Rattle.earliest.proofs.allowed.may_join.Goals as goal

pub returns-then-hinders : goal.returns-then-hinders
returns-then-hinders c =
    λ J n has is-a is_b.
    sym (not_joined_clashing J c.args.i c.args.j (rw (is-a, is_b)
    (sym (ap₂ ◌||◌ (c.hinders.ensures n) (c.hinders-2.ensures n)) ∙ c.if-hinders.true)))

pub returns : goal.returns
returns c =
    λ J n has is-a is_b.
    c.fit_together.ensures ∙ fit_together_in_lem J n _ _ has c.args.a c.args.b
    ∙ sym (joined_when_fitting J c.args.i c.args.j (rw (is-a, is_b)
    (sym c.is_longer.ensures ∙ c.if-not-is_longer.false))
    (rw (is-a, is_b) (sym (ap₂ ◌||◌ (c.hinders.ensures n) (c.hinders-2.ensures n))
    ∙ c.if-hinders.false)) ∙ ap₂ (fit_together J) is-a is_b)
