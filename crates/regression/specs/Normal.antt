-- Steps that cannot be dropped, for they add a critical fact, and steps that cannot start a minute later, for they are
-- blocked; and the minutes in which a blocked step may stop.
-- Assumes nothing.
use Rattle.std.specs.Prelude.{ℕ, ◌+◌, pred, Bool, cond, not, ◌&&◌, ◌||◌, List, eqb, length, get_or}
use Rattle.lists.specs.Lists.{any, any_below}
use Rattle.facts.specs.FactSet.{difference, meets}
use Rattle.job.specs.Resources.{handover}
use Rattle.job.specs.Job.{Job}
use Rattle.job.specs.Valid.{over}
use Rattle.timeline.specs.Step.{Step, union_of}
use Rattle.timeline.specs.Timeline.{clash, held, free, in_use}
use Rattle.regression.specs.Wanted.{wanted_at}

-- ── critical facts ──

-- what y adds, if it stops together with x and is of another action
abbrev pub added_beside : Step → Step → ℕ
added_beside x y = cond (eqb y.stop x.stop && not (eqb y.number x.number)) y.action.adds 0

-- what x adds that did not hold a minute before its stop, and that no other step adds then
abbrev pub added_alone : ℕ → List Step → Step → ℕ
added_alone S P x = difference (difference x.action.adds (held S P (pred x.stop))) (union_of (added_beside x) P)

-- x adds a critical fact: one that it adds alone, and that is wanted at its stop
unfoldable pub critical : Job → ℕ → ℕ → List Step → Step → Bool
critical J goal T P x = meets (added_alone J.start P x) (wanted_at goal P T x.stop)

-- ── blocked steps ──

-- y starts where x stops, and clashes with x or needs a fact that x adds
abbrev pub blocks : Step → Step → Bool
blocks x y = eqb y.start x.stop && (clash x y || meets x.action.adds y.action.needs)

-- in the minute in which x's share of some pool is free again, the pool has no room for that share beside P
abbrev pub lacks_room : Job → List Step → Step → Bool
lacks_room J P x =
    any_below (length J.pools)
    (λ pool. over (get_or J.pools pool 0) (in_use J pool (free J pool x) P + get_or x.action.pools pool 0))

-- x stops at the horizon, or cannot start a minute later
unfoldable pub blocked : Job → ℕ → List Step → Step → Bool
blocked J T P x = eqb x.stop T || (any (blocks x) P || lacks_room J P x)

-- ── event minutes ──

-- y starts at minute t, or in the minute in which a step that stops at t has its share of some pool no longer
abbrev pub touches_at : Job → ℕ → Step → Bool
touches_at J t y =
    eqb y.start t || any_below (length J.pools) (λ pool. eqb y.start (t + handover J pool))

-- a blocked step may stop at minute t
abbrev pub event_minute : Job → ℕ → List Step → ℕ → Bool
event_minute J T P t = eqb t T || any (touches_at J t) P
