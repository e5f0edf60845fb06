-- What the search tests of the steps L that it has chosen, the last steps of a plan.
-- Assumes nothing.
use Rattle.std.specs.Prelude.{ℕ, Bool, cond, ◌&&◌, List, leb, ltb}
use Rattle.facts.specs.FactSet.{union, difference, meets}
use Rattle.timeline.specs.Step.{Step, union_of}
use Rattle.regression.specs.Wanted.{wanted_at}
use Rattle.regression.specs.Normal.{added_beside}

-- what y provides at the stop of x: what it adds, if it stops then too, and what it needs, if it runs in the minute
-- before
abbrev pub provided : Step → Step → ℕ
provided x y =
    union (added_beside x y) (cond (ltb y.start x.stop && leb x.stop y.stop) y.action.needs 0)

-- x adds a wanted fact that no step of L provides
unfoldable pub solely_provides : ℕ → ℕ → List Step → Step → Bool
solely_provides goal T L x =
    meets (difference x.action.adds (union_of (provided x) L)) (wanted_at goal L T x.stop)

-- x deletes a fact that is wanted at its stop
unfoldable pub deletes_wanted : ℕ → ℕ → List Step → Step → Bool
deletes_wanted goal T L x = meets x.action.deletes (wanted_at goal L T x.stop)

-- what the steps that run in minute t need
abbrev pub running_needs : ℕ → List Step → ℕ
running_needs t L = union_of (λ x. cond (leb x.start t && ltb t x.stop) x.action.needs 0) L

-- what must hold at minute t: what is wanted then, and what the running steps need
abbrev pub must_hold : ℕ → ℕ → List Step → ℕ → ℕ
must_hold goal T L t = union (wanted_at goal L T t) (running_needs t L)
