-- `too_large` meets its contract: the counts, then the sums.
use mathlib.Core.Path.{ap₂, ◌∙◌}
use Prim.Native.Nat.{ℕ}
use mathlib.Core.List.{List}
use Rattle.lists.specs.Lists.{firsts, any}
use Rattle.lists.proofs.Tabulate.{length_tabulate}
use Rattle.job.specs.Job.{action_at, job_in}
use Rattle.job.specs.Valid.{over}
use Rattle.pooling.proofs.Arrays.{length_firsts}
use Rattle.pooling.proofs.PooledValues.{any_of_sums, too_large_parts}
use Rattle.pooling.proofs.poolable.too_large.Goals as goal

pub returns : goal.returns
returns c =
    let a = c.args in
    let A = job_in a.first in
    let B = job_in a.second in
    let n = a.first.counts in
    let m = a.second.counts in
    too_large_parts A B n.actions m.actions c.any_over.result c.any_over-2.result
    (length_tabulate n.actions (action_at a.first)) (length_tabulate m.actions (action_at a.second))
    (c.any_over.ensures
    ∙ ap₂ (λ (k : ℕ) (xs : List ℕ). any (over 1000000) (firsts k 0 xs)) c.max.ensures c.pools-pools.ensures
    ∙ any_of_sums A.pools B.pools n.pools m.pools (length_firsts n.pools a.first.pools)
    (length_firsts m.pools a.second.pools))
    (c.any_over-2.ensures
    ∙ ap₂ (λ (k : ℕ) (xs : List ℕ). any (over 1000000) (firsts k 0 xs)) c.max-2.ensures c.stores-stores.ensures
    ∙ any_of_sums A.stores B.stores n.stores m.stores (length_firsts n.stores a.first.stores)
    (length_firsts m.stores a.second.stores))
