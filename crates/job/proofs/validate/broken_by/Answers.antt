-- `broken_by` meets its contract: one test for each rule.
use Rattle.lists.proofs.Any.{any_append}
use Rattle.job.proofs.validate.broken_by.Goals as goal

pub returns : goal.returns
returns c =
    rw (
      c.foreign.ensures.0,
      c.foreign-2.ensures.0,
      c.foreign-3.ensures.0,
      c.meets.ensures.0,
      any_append,
      c.any_over.ensures,
      c.any_over-2.ensures,
    )
