-- `candidates` meets its contract: the actions before the next one are found or barred.
use mathlib.Core.Path.{◌≡◌}
use Rattle.states.specs.States.{Candidates}
use Rattle.states.proofs.rules.candidates.Given as goal

abbrev pub invariant-loop-k : goal.invariant-loop-k
invariant-loop-k l =
    (l.k-iterator.set ≡ l.undecided) × Candidates l.sets l.numbers l.frame l.st l.undecided l.k-iterator.from l.found
