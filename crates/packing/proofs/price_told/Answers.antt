-- `price_told` meets its contract: a way out for each kind of answer.
use mathlib.Core.Path.{sym, ap, ◌∙◌}
use Rattle.packing.specs.Answer.{priced_number}
use Rattle.packing.proofs.price_told.Goals as goal

pub pack_price-requires : goal.pack_price-requires
pack_price-requires c = c.requires _ c.in-Ok.is

pub returns-in-Ok : goal.returns-in-Ok
returns-in-Ok c = c.pack_price.ensures ∙ sym (ap priced_number c.in-Ok.is)

pub returns-in-Err : goal.returns-in-Err
returns-in-Err c = c.refused.ensures ∙ sym (ap priced_number c.in-Err.is)
