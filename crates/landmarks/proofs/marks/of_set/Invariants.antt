-- `of_set` meets its contract: the landmarks of the facts before the next one are found.
use mathlib.Core.Path.{◌≡◌}
use Rattle.landmarks.specs.Landmarks.{marks_of}
use Rattle.landmarks.specs.Tables.{mark_at}
use Rattle.landmarks.proofs.marks.of_set.Given as goal

abbrev pub invariant-loop-q : goal.invariant-loop-q
invariant-loop-q l =
    (l.q-iterator.set ≡ l.set) × (l.all ≡ marks_of (mark_at l.sets) l.q-iterator.from l.set)
