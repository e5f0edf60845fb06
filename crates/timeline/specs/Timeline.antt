-- The timeline: clashes, the facts that hold at a minute, and what is in use.
-- Assumes nothing.
use Rattle.std.specs.Prelude.{ℕ, zero, suc, ◌+◌, max, Bool, cond, ◌&&◌, ◌||◌, List, eqb, leb, ltb, length, get_or}
use Rattle.lists.specs.Lists.{tabulate, filled}
use Rattle.facts.specs.FactSet.{union, difference, meets}
use Rattle.job.specs.Job.{Action, Job}
use Rattle.job.specs.Resources.{handover, store_amount}
use Rattle.timeline.specs.Step.{Step, total, largest, union_of}

-- "The plan's end is the largest of these sums, 0 for no steps": its makespan
abbrev pub end : List Step → ℕ
end P = largest (λ x. x.stop) P

-- ── clashes ──

-- a deletes a fact that b needs or adds
abbrev pub hinders : Action → Action → Bool
hinders a b = meets a.deletes (union b.needs b.adds)

-- "Two different actions clash if either deletes a fact that the other needs or adds. An action clashes with itself
-- here, always."
abbrev pub clash : Step → Step → Bool
clash x y = eqb x.number y.number || (hinders x.action y.action || hinders y.action x.action)

-- the two steps share a minute
abbrev pub overlap : Step → Step → Bool
overlap x y = ltb x.start y.stop && ltb y.start x.stop

-- ── facts ──

-- a set of the steps that stop at minute t, and nothing of the others
abbrev pub if_stops : ℕ → ℕ → Step → ℕ
if_stops t set x = cond (eqb x.stop t) set 0

-- "what the steps ending then delete goes, and what they add comes"
abbrev pub deleted_at : ℕ → List Step → ℕ
deleted_at t P = union_of (λ x. if_stops t x.action.deletes x) P

abbrev pub added_at : ℕ → List Step → ℕ
added_at t P = union_of (λ x. if_stops t x.action.adds x) P

-- "goes one minute forward": what holds at minute t, from what held a minute before
abbrev pub next : List Step → ℕ → ℕ → ℕ
next P t held = union (difference held (deleted_at t P)) (added_at t P)

-- the facts that hold at a minute. "At minute 0 the start set holds."
abbrev pub held : ℕ → List Step → ℕ → ℕ
held start P zero = start
held start P (suc t) = next P (suc t) (held start P t)

-- ── pools and stores ──

-- the first minute in which a step's share of a pool is free again
unfoldable pub free : Job → ℕ → Step → ℕ
free J pool x = x.stop + handover J pool

-- the step has its share of the pool in minute t
abbrev pub has_share : Job → ℕ → ℕ → Step → Bool
has_share J pool t x = leb x.start t && ltb t (free J pool x)

-- how much of the pool is in use in minute t: "the uses of the running steps add up"
abbrev pub in_use : Job → ℕ → ℕ → List Step → ℕ
in_use J pool t P = total (λ x. cond (has_share J pool t x) (get_or x.action.pools pool 0) 0) P

-- the largest of f 0, f 1, up to f (n - 1); 0 for none
abbrev pub largest_below : ℕ → (ℕ → ℕ) → ℕ
largest_below zero f = 0
largest_below (suc n) f = max (f n) (largest_below n f)

-- "how many receivers are out together at most": the largest amount of the pool that is in use in a minute
unfoldable pub peak : Job → ℕ → List Step → ℕ
peak J pool P = largest_below (largest (free J pool) P) (λ t. in_use J pool t P)

-- "the largest such amount for each of four pools, 0 for a pool that the job lacks"
abbrev pub peaks : Job → List Step → List ℕ
peaks J P = filled 4 0 (tabulate (length J.pools) (λ pool. peak J pool P))

-- how much of the store a step uses up; "over the plan the uses add up"
abbrev pub store_use : Job → ℕ → Step → ℕ
store_use J store x = store_amount J store x.action

abbrev pub used_up : Job → ℕ → List Step → ℕ
used_up J store P = total (store_use J store) P
