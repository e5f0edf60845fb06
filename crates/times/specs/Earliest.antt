-- Earliest times: the equations of document 000, (5) to (8), with m = 2, as document 01 gives them.
-- Assumes nothing.
use Rattle.std.specs.Prelude.{ℕ, suc, ◌+◌, ◌-◌, ◌≤◌, ◌<◌, ◌≡◌, Bool, not, ◌&&◌, ◌||◌, eqb, leb, length, get_or}
use Rattle.lists.specs.Lists.{any_below}
use Rattle.facts.specs.FactSet.{has, union, single}
use Rattle.job.specs.Job.{Action, Job, no_action}
use Rattle.job.specs.Valid.{over}
use Rattle.timeline.specs.Timeline.{hinders}
use Rattle.times.specs.Time.{Time, at, earlier, later, after, choice, demand, least, greatest}

-- a table: a time for each two facts p ≤ q, and for one fact where p ≡ q
abbrev pub Table : Type 0
Table = ℕ → ℕ → Time

-- "the largest over all its subsets of one or two". Of one or two facts themselves that is their own entry in a table
-- that solves the equations (`time_of_pair`, proofs/Pairs.antt)
abbrev pub time_of : Job → Table → ℕ → Time
time_of J T set = greatest J.facts (λ q. greatest (suc q) (λ p. demand (has set p && has set q) (T p q)))

abbrev pub action_of : Job → ℕ → Action
action_of J i = get_or J.actions i no_action

-- ── "Chosen actions that together exceed a pool are no choice." ──

abbrev pub fits_alone : Job → Action → Bool
fits_alone J a = not (any_below (length J.pools) (λ k. over (get_or J.pools k 0) (get_or a.pools k 0)))

abbrev pub fit_together : Job → Action → Action → Bool
fit_together J a b =
    not (any_below (length J.pools) (λ k. over (get_or J.pools k 0) (get_or a.pools k 0 + get_or b.pools k 0)))

-- ── the three choices for facts p and q ──

-- "(i) One action adds all of E: its length plus the time of its needs."
abbrev pub adds_both : Job → Table → Action → ℕ → ℕ → Time
adds_both J T a p q = choice (has a.adds p && has a.adds q) (after a.duration (time_of J T a.needs))

-- "(ii) One action adds one fact and doesn't delete the other: its length plus the time of its needs joined with that
-- other fact."
abbrev pub adds_one : Job → Table → Action → ℕ → ℕ → Time
adds_one J T a p q =
    choice (has a.adds p && not (has a.deletes q))
    (after a.duration (time_of J T (union a.needs (single q))))

-- "(iii) Two different actions that don't clash add one fact each: with lengths s ≤ l, s plus the larger of (time of
-- the longer one's needs, plus l − s) and the time of both needs together." a is the longer one.
abbrev pub adds_each : Job → Table → Action → Action → ℕ → ℕ → Time
adds_each J T a b p q =
    choice (leb b.duration a.duration
    && ((has a.adds p && has b.adds q) || (has a.adds q && has b.adds p)))
    (after b.duration
    (later (after (a.duration - b.duration) (time_of J T a.needs)) (time_of J T (union a.needs b.needs))))

-- by one action: (i), and for two facts (ii)
abbrev pub by_one : Job → Table → ℕ → ℕ → Action → Time
by_one J T p q a =
    choice (fits_alone J a)
    (earlier (adds_both J T a p q) (choice (not (eqb p q)) (earlier (adds_one J T a p q) (adds_one J T a q p))))

-- by two different actions that don't clash: (iii)
abbrev pub by_two : Job → Table → ℕ → ℕ → ℕ → ℕ → Time
by_two J T p q i j =
    let a = action_of J i in
    let b = action_of J j in
    choice (not (eqb p q) && (not (eqb i j) && (not (hinders a b || hinders b a) && fit_together J a b)))
    (adds_each J T a b p q)

-- the right side of the equation for facts p and q: "E inside the start set: 0. Otherwise: the least over these
-- choices."
unfoldable pub right_side : Job → Table → ℕ → ℕ → Time
right_side J T p q =
    earlier (choice (has J.start p && has J.start q) (at 0))
    (earlier (least (length J.actions) (λ i. by_one J T p q (action_of J i)))
    (least (length J.actions) (λ i. least (length J.actions) (λ j. by_two J T p q i j))))

-- the table solves the equations: "lengths are positive, so only one table solves this"
abbrev pub Solves : Job → Table → Type 0
Solves J T = (p q : ℕ) → p ≤ q → q < J.facts → T p q ≡ right_side J T p q
