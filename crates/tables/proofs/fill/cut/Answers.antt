-- `cut` meets its contract: place by place.
use Rattle.tables.proofs.fill.cut.Goals as goal

pub returns : goal.returns
returns c = λ k l. (c.map.ensures.items.at k 0 0 l).2.met
