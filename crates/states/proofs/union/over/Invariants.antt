-- `over` meets its contract: the first k steps are joined.
use Rattle.states.specs.Unions.{UnionTo}
use Rattle.states.proofs.union.over.Given as goal

abbrev pub invariant-loop-k : goal.invariant-loop-k
invariant-loop-k g l = UnionTo l.steps (λ i start set. goal.F-post g l.set_of i start set) l.k l.set
