-- `by_action` meets its contract: an action that does not fit, or whose needs are unreachable, is no choice.
use mathlib.Core.Path.{◌∙◌}
use Rattle.earliest.specs.Extra.{with_extra}
use Rattle.earliest.proofs.JobSweep.{fits_as_tested, misfit_lowers, late_lowers, action_lowers}
use Rattle.earliest.proofs.WithExtra.{has_pools}
use Rattle.earliest.proofs.sweep.by_action.Goals as goal

pub returns-then-not-fits_alone : goal.returns-then-not-fits_alone
returns-then-not-fits_alone c =
    let job = c.args.job in
    let extra = c.args.extra in
    let J = with_extra job extra in
    let tested = fits_as_tested J _ c.args.i _ _ c.action_of-action.ensures _ _ (has_pools job extra) _
    c.fits_alone.ensures in
    let misfit = tested ∙ c.if-not-fits_alone.true in
    (c.requires.0, misfit_lowers J _ c.args.i _ _ c.action_of-action.ensures _ misfit)

pub returns-then-end : goal.returns-then-end
returns-then-end c =
    (c.requires.0, late_lowers _ _ c.args.i _ _ c.action_of-action.ensures _ _ c.end.ensures c.if-end.true)

pub returns : goal.returns
returns c =
    let job = c.args.job in
    let extra = c.args.extra in
    let J = with_extra job extra in
    let tested = fits_as_tested J _ c.args.i _ _ c.action_of-action.ensures _ _ (has_pools job extra) _
    c.fits_alone.ensures in
    let fits = tested ∙ c.if-not-fits_alone.false in
    let both = c.add_both-both.ensures in
    let one = c.add_one-one.ensures in
    let each = c.add_each_with-each.ensures in (
      each.0,
      action_lowers J _ c.args.i _ _ c.action_of-action.ensures _ _ _ _ _ _ _ fits both.1 one.1 each.1,
    )
