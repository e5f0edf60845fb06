-- `decode` meets its contract: field by field.
use Rattle.lists.proofs.Tabulate.{length_tabulate}
use Rattle.jobfile.specs.File.{job_of}
use Rattle.reader.proofs.decode.decode.Goals as goal

pub returns : goal.returns
unfolding job_of
returns c =
    rw (
      c.read_number.ensures.0,
      c.read_number-2.ensures.0,
      c.read_number-3.ensures.0,
      c.read_number-4.ensures.0,
      c.rule.ensures,
      c.reserve.ensures,
      c.action_size.ensures,
      c.amounts-pool_amounts.ensures,
      c.amounts-store_amounts.ensures,
      c.actions-all.ensures,
      c.put_minutes.ensures,
      c.put_minutes-2.ensures,
    )
    (simp length_tabulate)
