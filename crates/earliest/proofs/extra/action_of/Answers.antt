-- `action_of` meets its contract: the place in the one array or in the other.
use Rattle.earliest.proofs.WithExtra.{is_own_action, extra_place, is_extra_action}
use native.Mathlib.Omega.{arith}
use Rattle.earliest.proofs.extra.action_of.Goals as goal

pub returns-then-i-counts : goal.returns-then-i-counts
returns-then-i-counts c =
    is_own_action c.args.job c.args.extra c.args.i c.if-i-counts.true

pub offset_bounds-extra-i : goal.offset_bounds-extra-i
offset_bounds-extra-i c =
    let place = extra_place c.args.job c.args.extra c.requires.0 c.args.i c.requires.1 in omega arith

pub bounds-extra-i : goal.bounds-extra-i
bounds-extra-i c =
    extra_place c.args.job c.args.extra c.requires.0 c.args.i c.requires.1

pub returns : goal.returns
returns c =
    is_extra_action c.args.job c.args.extra c.args.i c.if-i-counts.false c.requires.1
