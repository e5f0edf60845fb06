-- `attempt`, `choose` and `regress` end: minutes fall, and within a minute the actions left.
use Prim.Native.Nat.{ℕ, ◌≤◌, ◌<◌}
use mathlib.Core.Path.{◌≡◌}
use mathlib.Core.Bool.{true}
use Rattle.facts.specs.FactSet.{has}
use Rattle.job.specs.Job.{Job}
use Rattle.tables.specs.Tables.{chosen}
use Rattle.states.specs.States.{Stands, DeadFor, MayStop, OpenIn}
use Rattle.search.specs.Search.{TaskOf}
use Rattle.search.proofs.Measure.{of_attempt, of_choose, of_regress}
use Rattle.search.proofs.regress.+attempt_choose_regress.Given as goal

abbrev pub decreases-attempt : goal.decreases-attempt
decreases-attempt l = of_attempt l.st.minute l.left

abbrev pub decreases-choose : goal.decreases-choose
decreases-choose l = of_choose l.st.minute l.undecided

abbrev pub decreases-regress : goal.decreases-regress
decreases-regress l = of_regress l.st.minute

-- what the loop keeps: the actions left may stop now, and where they make a dead end, the undecided ones do
abbrev pub invariant-choose-loop-frame : goal.invariant-choose-loop-frame
invariant-choose-loop-frame l =
    (l.left ≤ l.undecided)
    × ((a : ℕ) → has l.left a ≡ true → (a < l.frame.actions) × MayStop l.sets l.numbers l.frame l.st a true)
    × ((J : Job) → TaskOf J l.file l.sets l.numbers l.times l.frame → Stands J l.frame l.st
    → DeadFor J l.frame (OpenIn l.frame l.st l.left) (chosen J l.st.steps)
    → DeadFor J l.frame (OpenIn l.frame l.st l.undecided) (chosen J l.st.steps))

-- and what falls in it: the set of the actions left, as a number
abbrev pub decreases-choose-loop-frame : goal.decreases-choose-loop-frame
decreases-choose-loop-frame l = l.left
