-- `action` meets its contract: six writes one after the other.
use Prim.Native.Nat.{◌+◌, ◌*◌}
use lib.ListN.{get_or}
use Rattle.lists.proofs.Tabulate.{length_tabulate}
use Rattle.job.specs.Job.{action_in}
use Rattle.jobfile.proofs.Writes.{write_action}
use native.Mathlib.Omega.{arith}
use Rattle.writer.proofs.encode.action.Goals as goal

pub returns : goal.returns
returns c =
    let a = c.args in
    let h = c.requires in
    let n = length_tabulate a.counts.pools (λ k. get_or a.a.pools k 0) in
    rw (
      c.amounts-2.ensures,
      c.amounts.ensures,
      c.write_number-4.ensures,
      c.write_number-3.ensures,
      c.write_number-2.ensures,
      c.write_number.ensures,
      c.from.ensures,
    )
    (write_action a.out.now a.at (action_in a.counts a.a) (a.at + 25 + 4 * a.counts.pools) (omega arith)
    (omega arith))
