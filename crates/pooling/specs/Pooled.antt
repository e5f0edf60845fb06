-- Two jobs pooled to one, sentence by sentence of document 02, i, and tests 32 and 33.
-- Assumes nothing.
use Rattle.std.specs.Prelude.{ℕ, ◌+◌, ◌*◌, ◌^◌, max, min, ◌≡◌, Bool, cond, not, ◌||◌, List, [], ◌∷◌, ◌++◌, map, eqb, ltb, length, Result}
use Rattle.lists.specs.Lists.{tabulate, filled, any, any_below}
use Rattle.facts.specs.FactSet.{union}
use Rattle.job.specs.declared.Form.{Form}
use Rattle.job.specs.declared.Form.TheVariants.{Four, Five, Six}
use Rattle.job.specs.declared.Job as held
use Rattle.job.specs.declared.refusal.Refusal.{Refusal}
use Rattle.job.specs.declared.refusal.Refusal.TheVariants.{PoolTooLarge, PoolUnlike}
use Rattle.job.specs.Job.{Action, Job, entries, handover_count, head_size, job_value}
use Rattle.job.specs.Lengths.{shortest_of}
use Rattle.job.specs.Refusal.{Verdict, Row, ◌when◌, first, answer_by, reply_of, reply_by}
use Rattle.job.specs.Resources.{handover}
use Rattle.job.specs.Valid.{over, job_rows}

-- "The second's facts and actions are numbered behind the first's": the set with each fact so much higher
unfoldable pub behind : ℕ → ℕ → ℕ
behind facts set = set * 2 ^ facts

-- "so renumbered, its start and goal sets join the first's"
abbrev pub joined_behind : ℕ → ℕ → ℕ → ℕ
joined_behind facts set other = union set (behind facts other)

-- "Pools and stores add up place by place, a missing one counting 0"
unfoldable pub plus : List ℕ → List ℕ → List ℕ
plus [] ys = ys
plus (x ∷ xs) [] = x ∷ xs
plus (x ∷ xs) (y ∷ ys) = (x + y) ∷ plus xs ys

-- an action whose facts are numbered behind so many, in a job with so many pools and stores: "a missing one counting 0
-- (also in the uses of that job's actions)"
abbrev pub renumbered : ℕ → ℕ → ℕ → Action → Action
renumbered facts pools stores a =
    record {
      duration = a.duration;
      needs = behind facts a.needs;
      adds = behind facts a.adds;
      deletes = behind facts a.deletes;
      pools = filled pools 0 a.pools;
      stores = filled stores 0 a.stores;
    }

-- "The pooled job takes the form with more entries of the two."
abbrev pub more_entries : Form → Form → Form
more_entries a b = cond (ltb (entries a) (entries b)) b a

-- "A missing pool takes the other's handover"; those of a shared pool are the same, or 33 holds
abbrev pub pooled_handover : Job → Job → ℕ → ℕ
pooled_handover A B pool = cond (ltb pool (length A.pools)) (handover A pool) (handover B pool)

-- the shortest length of each action: "Older forms have shortest equal to longest"
abbrev pub shortest_lengths : Job → List ℕ
shortest_lengths J = tabulate (length J.actions) (shortest_of J)

-- the shortest lengths that a job of the form has
abbrev pub shortest_in : Form → List ℕ → List ℕ
shortest_in Four lengths = []
shortest_in Five lengths = []
shortest_in Six lengths = lengths

-- "Two jobs become one. The second's facts and actions are numbered behind the first's", "and the later deadline
-- holds". Head form and reserve are those of both, or 33 holds
abbrev pub pooled : Job → Job → Job
pooled A B =
    let form = more_entries A.form B.form in
    let pools = plus A.pools B.pools in
    let stores = plus A.stores B.stores in
    record {
      facts = A.facts + B.facts;
      deadline = max A.deadline B.deadline;
      start = joined_behind A.facts A.start B.start;
      goal = joined_behind A.facts A.goal B.goal;
      form = form;
      rule = A.rule;
      reserve = A.reserve;
      pools = pools;
      handovers = tabulate (handover_count form (length pools)) (pooled_handover A B);
      stores = stores;
      shortest = shortest_in form (shortest_lengths A ++ shortest_lengths B);
      actions = map (renumbered 0 (length pools) (length stores)) A.actions
          ++ map (renumbered A.facts (length pools) (length stores)) B.actions;
    }

-- 32: "over 64 facts or actions, or a sum over 1,000,000"
abbrev pub too_large : Job → Job → Bool
too_large A B =
    (over 64 (A.facts + B.facts) || over 64 (length A.actions + length B.actions))
    || any (over 1000000) (plus A.pools B.pools ++ plus A.stores B.stores)

-- the handovers of a pool that both have differ
abbrev pub handovers_differ : Job → Job → Bool
handovers_differ A B =
    any_below (min (length A.pools) (length B.pools)) (λ pool. not (eqb (handover A pool) (handover B pool)))

-- 33: "handovers of a shared pool, head forms or reserves differ"
abbrev pub unlike : Job → Job → Bool
unlike A B =
    (handovers_differ A B || not (eqb (head_size A.rule) (head_size B.rule))) || not (eqb A.reserve B.reserve)

-- "Both come after the checks of the first job, then the second"; 33 is "checked next"
unfoldable pub pool_rows : Job → Job → List Row
pool_rows A B = job_rows A ++ (job_rows B ++ (PoolTooLarge when too_large A B ∷ PoolUnlike when unlike A B ∷ []))

-- what pooling answers: a job that passes every test, or the refusal
abbrev pub Pooled : Type 0
Pooled = Result held.Job Refusal

-- the pooled job, or a refusal: "a job or number standing beside it is all zero": beside one none stands
abbrev pub pooled_of : Verdict → Job → Pooled
pooled_of v J = answer_by v (job_value J)

-- the first refusal, or the pooled job
unfoldable pub pool_jobs : Job → Job → Pooled
pool_jobs A B = pooled_of (first (pool_rows A B)) (pooled A B)

-- what pooling promises of two jobs
pub record Pools (A B : Job) (r : Pooled) : Type 0 where
  pub answers : r ≡ pool_jobs A B
  pub replies : reply_of r ≡ reply_by (first (pool_rows A B)) (job_value (pooled A B))
