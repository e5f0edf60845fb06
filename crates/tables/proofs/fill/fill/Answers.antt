-- `fill` meets its contract: the sets and numbers of the actions below i are in the tables.
use Rattle.std.proofs.Common.{get_or, arith}
use Rattle.lists.proofs.Tabulate.{length_tabulate}
use Rattle.job.specs.Job.{job_in}
use Rattle.tables.proofs.FillLaws.{sets_next, numbers_next}
use Rattle.tables.proofs.fill.fill.Goals as goal

pub loop-i-preserved : goal.loop-i-preserved
loop-i-preserved c =
    let fits = c.requires.2 in
    let job = c.args.job in
    let J = job_in job in
    let sets = c.put_sets.ensures in
    let numbers = c.put_numbers.ensures in
    let pools = length_tabulate job.counts.pools (λ k. get_or job.pools k 0) in
    let stores = length_tabulate job.counts.stores (λ k. get_or job.stores k 0) in
    let inv = c.loop-i.invariant in (
      sets.0,
      numbers.0,
      sets_next J c.loop-i.i c.loop-i.sets _ inv.2 sets.2 sets.1,
      numbers_next J c.loop-i.i c.loop-i.numbers _ (omega arith) (omega arith) inv.3 numbers.2 numbers.1,
    )
