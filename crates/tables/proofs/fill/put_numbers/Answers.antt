-- `put_numbers` meets its contract: the duration, then what the action uses of pools and stores.
use Rattle.std.proofs.Common.{◌∙◌, ◌*◌, arith, get_or-set_other, length-set}
use Rattle.tables.proofs.FillLaws.{numbers_put}
use Rattle.tables.proofs.fill.put_numbers.Goals as goal

pub returns : goal.returns
returns c =
    let h = c.requires in
    let at = c.args in
    let i = at.i in
    let xs = at.numbers.now in
    let d = c.minutes.result in
    let byte = c.minutes.ensures in
    let pools = c.put_amounts.ensures in
    let stores = c.put_amounts-2.ensures in (
      stores.size ∙ pools.size ∙ length-set xs (i * 9) d ∙ h.0,
      numbers_put at.job i h.2 xs _ _ _ _ d c.charged-stores.ensures.0 c.cut.ensures h.1 (omega arith) byte.0
          byte.1 pools stores,
      λ k l.
          stores.before k (omega arith) ∙ pools.before k (omega arith)
          ∙ get_or-set_other xs (i * 9) k d 0 (λ e. omega arith),
    )
