-- `minutes` meets its contract: the facts taken so far are a clique.
use Rattle.std.proofs.Common.{add_comm}
use Rattle.cliques.specs.Cliques.{none_taken, one_more}
use Rattle.cliques.proofs.minutes.Goals as goal

pub loop-q-init : goal.loop-q-init
loop-q-init c = none_taken

pub loop-q-preserved : goal.loop-q-preserved
loop-q-preserved c =
    let picked = c.in-Some.ensures in
    let r = c.remaining-allowed.ensures in
    rw (add_comm c.loop-q.sum c.from-sum.result, c.from-sum.ensures)
    (one_more c.loop-q.invariant c.in-Some.q _ picked.0 picked.1 r.inside r.apart)
