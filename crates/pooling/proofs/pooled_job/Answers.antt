-- `pooled_job` meets its contract: field by field.
use mathlib.Core.Path.{ap, ◌∙◌}
use Rattle.std.proofs.Common.{rules}
use Rattle.job.specs.declared.Form.{Form}
use mathlib.Core.List.{◌++◌}
use Rattle.lists.specs.Lists.{filled}
use Rattle.job.specs.Job.{job_in}
use Rattle.pooling.specs.Pooled.{pooled, shortest_in, shortest_lengths}
use Rattle.pooling.proofs.PoolTests.{few_facts}
use Rattle.pooling.proofs.PassingActions.{behind_word}
use Rattle.pooling.proofs.PooledValues.{counts_of_pooled, value_by_parts}
use Rattle.pooling.proofs.pooled_job.Goals as goal

pub joined-requires : goal.joined-requires
joined-requires c =
    let a = c.args in
    behind_word a.first.facts a.second.facts a.second.start
    (few_facts (job_in a.first) (job_in a.second) c.requires.not_too_large) c.requires.both.passed_second.start

pub joined-requires-2 : goal.joined-requires-2
joined-requires-2 c =
    let a = c.args in
    behind_word a.first.facts a.second.facts a.second.goal
    (few_facts (job_in a.first) (job_in a.second) c.requires.not_too_large) c.requires.both.passed_second.goal

pub returns : goal.returns
returns c =
    let a = c.args in
    let A = job_in a.first in
    let B = job_in a.second in
    let form = c.more_entries-form.ensures in
    value_by_parts (pooled A B) _ _ _ _ _ _ _ _ _ _ _ (search rules) c.joined.ensures
    c.joined-2.ensures c.reserve.ensures form
    (counts_of_pooled a.first a.second _ _ c.max.ensures c.max-2.ensures)
    c.pools-pools.ensures c.pooled-handovers.ensures c.stores-stores.ensures
    (c.shortest-shortest.ensures
    ∙ ap (λ (f : Form). filled 64 0 (shortest_in f (shortest_lengths A ++ shortest_lengths B))) form)
    c.all-actions.ensures
