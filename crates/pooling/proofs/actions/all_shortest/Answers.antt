-- `all_shortest` meets its contract: one job behind the other.
use mathlib.Core.Path.{◌≡◌, refl}
use mathlib.Core.List.{[]}
use lib.ListN.{length}
use Rattle.lists.proofs.Tabulate.{length_tabulate}
use Rattle.job.specs.Job.{action_at, job_in}
use Rattle.job.specs.Lengths.{shortest_of}
use Rattle.pooling.specs.Pooled.{shortest_lengths}
use Rattle.pooling.proofs.PooledValues.{few_actions_of_values}
use native.Mathlib.Omega.{arith}
use Rattle.pooling.proofs.actions.all_shortest.Goals as goal

pub put_shortest-requires : goal.put_shortest-requires
put_shortest-requires c =
    let a = c.args in
    (c.requires.both.fits_second, few_actions_of_values a.first a.second c.requires.not_too_large)

pub returns : goal.returns
returns c =
    let a = c.args in
    let J = job_in a.first in
    let n = length_tabulate a.first.counts.actions (action_at a.first) in
    let m = length_tabulate (length J.actions) (shortest_of J) in
    let count : length (shortest_lengths J) ≡ a.first.counts.actions = omega arith in
    c.put_shortest.ensures (shortest_lengths J) count (c.put_shortest-mine.ensures [] refl refl)
