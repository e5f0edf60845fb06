-- The choices of an equation's right side that end by a minute.
-- Inner functions and laws alone cite these. Assumes nothing.
use Rattle.std.specs.Prelude.{ℕ, ◌+◌, ◌<◌, ◌≤◌, ◌≡◌, true, false, length}
use Rattle.facts.specs.FactSet.{has, union, single}
use Rattle.job.specs.Job.{Job}
use Rattle.timeline.specs.Timeline.{hinders}
use Rattle.times.specs.Time.{Time, at, unreachable}
use Rattle.times.specs.Earliest.{Table, time_of, action_of, fits_alone, fit_together}

-- the time is at most t
abbrev pub By : Time → ℕ → Type 0
By (at x) t = x ≤ t
By unreachable t = ⊥

-- action i of the job, within the pools, starts when the set is there and ends by minute t
pub record Alone (J : Job) (T : Table) (t set i : ℕ) : Type 0 where
  pub known : i < length J.actions
  pub fits : fits_alone J (action_of J i) ≡ true
  pub from : ℕ
  pub ready : By (time_of J T set) from
  pub ends : (action_of J i).duration + from ≤ t

-- two different actions i and j of the job that do not clash and are within the pools together, i the longer one: i
-- starts when its needs are there, j when both needs are, and they end by minute t
pub record Together (J : Job) (T : Table) (t i j : ℕ) : Type 0 where
  pub known : i < length J.actions
  pub known_too : j < length J.actions
  pub different : i ≡ j → ⊥
  pub spares : hinders (action_of J i) (action_of J j) ≡ false
  pub spared : hinders (action_of J j) (action_of J i) ≡ false
  pub fits : fit_together J (action_of J i) (action_of J j) ≡ true
  pub longer : (action_of J j).duration ≤ (action_of J i).duration
  pub from : ℕ
  pub ready : By (time_of J T (action_of J i).needs) from
  pub ends : (action_of J i).duration + from ≤ t
  pub both_from : ℕ
  pub both_ready : By (time_of J T (union (action_of J i).needs (action_of J j).needs)) both_from
  pub both_end : (action_of J j).duration + both_from ≤ t

-- a choice for facts p and q that ends by minute t: the start set, (i), (ii) for either fact, and (iii)
pub data Reached (J : Job) (T : Table) (p q t : ℕ) : Type 0 where
  at_start : has J.start p ≡ true → has J.start q ≡ true → Reached J T p q t
  both : (i : ℕ) → Alone J T t (action_of J i).needs i → has (action_of J i).adds p ≡ true
      → has (action_of J i).adds q ≡ true → Reached J T p q t
  one : (i : ℕ) → (p ≡ q → ⊥) → Alone J T t (union (action_of J i).needs (single q)) i
      → has (action_of J i).adds p ≡ true → has (action_of J i).deletes q ≡ false → Reached J T p q t
  other : (i : ℕ) → (p ≡ q → ⊥) → Alone J T t (union (action_of J i).needs (single p)) i
      → has (action_of J i).adds q ≡ true → has (action_of J i).deletes p ≡ false → Reached J T p q t
  each : (i j : ℕ) → (p ≡ q → ⊥) → Together J T t i j → has (action_of J i).adds p ≡ true
      → has (action_of J j).adds q ≡ true → Reached J T p q t
  each_other : (i j : ℕ) → (p ≡ q → ⊥) → Together J T t i j → has (action_of J i).adds q ≡ true
      → has (action_of J j).adds p ≡ true → Reached J T p q t
