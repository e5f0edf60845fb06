-- `add_both` meets its contract: when the action ends.
use Rattle.earliest.proofs.Lowers.{both_lowers}
use Rattle.earliest.proofs.choices.add_both.Goals as goal

pub returns : goal.returns
returns c =
    let lowers = c.lower_all.ensures in
    (lowers.0, both_lowers c.args.facts _ _ _ c.args.action _ c.end-time.ensures lowers.1)
