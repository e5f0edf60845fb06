-- The makespan of a job for a goal set: the least end of the accepted plans that count, found by trying every plan.
-- Assumes nothing.
use Rattle.std.specs.Prelude.{ℕ, zero, suc, ◌-◌, ◌≤◌, ◌≡◌, Bool, true, false, cond, not, ◌&&◌, ◌||◌, List, [], ◌∷◌, ◌++◌, leb, ltb, length}
use Rattle.lists.specs.Lists.{any, any_below}
use Rattle.job.specs.Job.{Job}
use Rattle.job.specs.Refusal.{first}
use Rattle.job.specs.Refusal.{Verdict}
use Rattle.std.specs.Prelude.{Ok, Err}
use Rattle.job.specs.Refusal.{pass}
use Rattle.timeline.specs.Step.{Step, step_of, steps_in, before}
use Rattle.timeline.specs.Timeline.{end}
use Rattle.timeline.specs.Accepted.{Accepted, clashing, step_rows}

-- the least end of the accepted plans; or there is none
pub data Makespan : Type 0 where
  ends_at : ℕ → Makespan
  no_plan : Makespan

-- "Its begun steps are those that start before the given minute"
abbrev pub begun : ℕ → List Step → List Step
begun minute [] = []
begun minute (x ∷ P) = cond (ltb x.start minute) (x ∷ begun minute P) (begun minute P)

-- "a plan then counts if its own steps that start before that minute are exactly these": with minute 0 every plan
-- counts
abbrev pub Counts : Job → ℕ → List Step → List ℕ → Type 0
Counts J minute K bytes = begun minute (steps_in J bytes) ≡ K

-- e is the end of a plan that counts and is accepted, and "no other such plan ends earlier"
pub record LeastEnd (J : Job) (goal minute : ℕ) (K : List Step) (e : ℕ) : Type 0 where
  pub plan : (bytes : List ℕ) × Accepted J goal bytes × Counts J minute K bytes × (end (steps_in J bytes) ≡ e)
  pub least : (bytes : List ℕ) → Accepted J goal bytes → Counts J minute K bytes → e ≤ end (steps_in J bytes)

-- ── trying every plan ──

-- the verdict is a pass
abbrev pub is_pass : Verdict → Bool
is_pass (Ok _) = true
is_pass (Err why) = false

-- none of tests 13 to 20 is true of the steps
abbrev pub passes : Job → ℕ → List Step → Bool
passes J goal P = is_pass (first (step_rows J goal P))

-- x can be the next step behind the steps P: it starts at the minute or later and stops by minute T, stands after each
-- of them, and clashes with none that it shares a minute with
abbrev pub can_follow : ℕ → ℕ → List Step → Step → Bool
can_follow minute T P x =
    leb minute x.start && (leb x.stop T && not (any (λ y. not (before y x) || clashing y x) P))

-- x can be the next step and passes the test, which is only made then
abbrev pub follows_with : ℕ → ℕ → List Step → (Step → Bool) → Step → Bool
follows_with minute T P test x = elim (can_follow minute T P x) [ true ↦ test x | false ↦ false ]

-- some step of the job can be the next one behind P and passes the test
abbrev pub some_next : Job → ℕ → ℕ → List Step → (Step → Bool) → Bool
some_next J minute T P test =
    any_below T
    (λ start. any_below (length J.actions) (λ number. follows_with minute T P test (step_of J number start)))

-- the steps P pass, alone or with at most n steps behind them that each start at the minute or later and stop by T
abbrev pub completable : Job → ℕ → ℕ → ℕ → ℕ → List Step → Bool
completable J goal minute T zero P = passes J goal P
completable J goal minute T (suc n) P =
    elim (passes J goal P) [
      | true ↦ true
      | false ↦ some_next J minute T P (λ x. completable J goal minute T n (P ++ (x ∷ [])))
    ]

-- "A plan is a list of 0 to 32 steps": some plan that begins with the steps K and whose steps stop by minute T passes
abbrev pub solvable : Job → ℕ → ℕ → List Step → ℕ → Bool
solvable J goal minute K T =
    elim (leb (end K) T) [ true ↦ completable J goal minute T (32 - length K) K | false ↦ false ]

-- the least number below n that passes the test
abbrev pub least_below : ℕ → (ℕ → Bool) → Makespan
least_below zero test = no_plan
least_below (suc n) test =
    elim (least_below n test) [
      | ends_at e ↦ ends_at e
      | no_plan ↦ elim (test n) [ true ↦ ends_at n | false ↦ no_plan ]
    ]

-- the least minute, up to the deadline, by which the steps of some plan with the begun steps K stop
unfoldable pub makespan_from : Job → ℕ → ℕ → List Step → Makespan
makespan_from J goal minute K = least_below (suc J.deadline) (solvable J goal minute K)

-- "Every plan counts, except where a day has begun."
abbrev pub makespan : Job → ℕ → Makespan
makespan J goal = makespan_from J goal 0 []
