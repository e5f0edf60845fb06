-- `unlike` meets its contract: handovers, heads, reserves.
use mathlib.Core.Path.{sym, ap, ap₂, ◌∙◌}
use Prim.Native.Nat.{min}
use mathlib.Core.Bool.{not, ◌||◌}
use lib.Dec.{eqb}
use Rattle.job.specs.Job.{job_in}
use Rattle.pooling.proofs.Arrays.{length_firsts}
use Rattle.pooling.proofs.PooledValues.{handovers_differ_by}
use Rattle.pooling.proofs.poolable.unlike.Goals as goal

pub returns : goal.returns
returns c =
    let a = c.args in
    let n = length_firsts a.first.counts.pools a.first.pools in
    let m = length_firsts a.second.counts.pools a.second.pools in
    ap₂ ◌||◌
    (ap₂ ◌||◌
    (c.any_differs.ensures
    ∙ handovers_differ_by (job_in a.first) (job_in a.second) c.handovers.result c.handovers-2.result
    _ c.handovers.ensures c.handovers-2.ensures (c.min-shared.ensures ∙ ap₂ min (sym n) (sym m)))
    (ap not (ap₂ eqb c.head.ensures c.head-2.ensures)))
    (ap not (ap₂ eqb c.reserve.ensures c.reserve-2.ensures))
