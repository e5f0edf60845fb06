-- `all` meets its contract: one job behind the other.
use mathlib.Core.Path.{◌≡◌, refl, ap, ◌∙◌}
use mathlib.Core.List.{[], map}
use lib.ListN.{length, replicate, length-map}
use Rattle.job.specs.declared.Action as act
use Rattle.lists.proofs.Tabulate.{length_tabulate}
use Rattle.job.specs.Job.{action_at, job_in}
use Rattle.pooling.proofs.PooledJob.{pool_count, store_count, first_action}
use Rattle.pooling.proofs.PoolTests.{few_facts}
use Rattle.pooling.proofs.PooledArrays.{fits_behind}
use Rattle.pooling.proofs.PooledValues.{few_actions_of_values, both_widen}
use native.Mathlib.Omega.{arith}
use Rattle.pooling.proofs.actions.all.Goals as goal

pub put-mine-requires : goal.put-mine-requires
put-mine-requires c =
    let pre = c.requires in
    let a = c.args in
    let few = few_actions_of_values a.first a.second pre.not_too_large in
    let facts = pre.both.passed_first.facts in
    (pre.both.fits_first, omega arith, fits_behind 0 a.first pre.both.passed_first (omega arith))

pub put-requires : goal.put-requires
put-requires c =
    let pre = c.requires in
    let a = c.args in
    let few = few_actions_of_values a.first a.second pre.not_too_large in
    let facts = few_facts (job_in a.first) (job_in a.second) pre.not_too_large in
    (pre.both.fits_second, omega arith, fits_behind a.first.facts a.second pre.both.passed_second facts)

pub returns : goal.returns
returns c =
    let pre = c.requires in
    let a = c.args in
    let A = job_in a.first in
    let B = job_in a.second in
    let mine = first_action A B in
    let n = length_tabulate a.first.counts.actions (action_at a.first) in
    let widen = both_widen a.first a.second pre.both in
    let count : length (map mine A.actions) ≡ a.first.counts.actions = length-map A.actions mine ∙ n in
    c.put.ensures (map mine A.actions) (pool_count A B) (store_count A B) count
    (c.put-mine.ensures [] (pool_count A B) (store_count A B) refl
    (ap (λ (x : act.Action). replicate 64 x) c.unused-none.ensures) widen.0)
    widen.1
