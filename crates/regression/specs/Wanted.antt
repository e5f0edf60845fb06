-- What the steps of a list and the goal want at a minute, going back from the horizon T.
-- Assumes nothing.
use Rattle.std.specs.Prelude.{ℕ, zero, suc, ◌-◌, cond, ◌&&◌, List, eqb, leb, ltb}
use Rattle.facts.specs.FactSet.{union, difference}
use Rattle.timeline.specs.Step.{Step, union_of}
use Rattle.timeline.specs.Timeline.{added_at}

-- a set of the steps that start at minute t, and nothing of the others
abbrev pub if_starts : ℕ → ℕ → Step → ℕ
if_starts t set x = cond (eqb x.start t) set 0

-- what the steps that start at minute t need
abbrev pub needed_at : ℕ → List Step → ℕ
needed_at t P = union_of (λ x. if_starts t x.action.needs x) P

-- What is wanted at minute T - k. At T that is the goal; a minute earlier it is what is still wanted and not added, and
-- what the steps that start there need.
unfoldable pub wanted : ℕ → List Step → ℕ → ℕ → ℕ
wanted goal P T zero = goal
wanted goal P T (suc k) = union (difference (wanted goal P T k) (added_at (T - k) P)) (needed_at (T - suc k) P)

-- what is wanted at minute t
abbrev pub wanted_at : ℕ → List Step → ℕ → ℕ → ℕ
wanted_at goal P T t = wanted goal P T (T - t)

-- what the steps that stop after minute s and by minute t add
abbrev pub added_between : ℕ → ℕ → List Step → ℕ
added_between s t P = union_of (λ x. cond (ltb s x.stop && leb x.stop t) x.action.adds 0) P
