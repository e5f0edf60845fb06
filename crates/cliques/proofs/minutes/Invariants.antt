-- `minutes` meets its contract: the facts taken so far are a clique.
use Rattle.cliques.specs.Cliques.{Taken, apart_at, least_at}
use Rattle.cliques.proofs.minutes.Given as goal

abbrev pub invariant-loop-q : goal.invariant-loop-q
invariant-loop-q l = Taken 64 (apart_at l.sets) (least_at l.numbers) l.set l.allowed l.sum

abbrev pub decreases-loop-q : goal.decreases-loop-q
decreases-loop-q l = l.allowed
