-- "Days to try it on": the starred cases, as one list; and days for the quoting screen (document 02, l).
-- Assumes nothing.
use Rattle.std.specs.Prelude.{ℕ, ◌≡◌, List, [], ◌∷◌, ◌++◌, replicate}
use Rattle.encoding.specs.Bytes.{to_bytes}
use Rattle.job.specs.Job.{Action, Job}
use Rattle.job.specs.Refusal.{reply_of, number, Reply, refused, returned}
use Rattle.job.specs.declared.Form.{Form}
use Rattle.job.specs.declared.Form.TheVariants.{Four, Five, Six}
use Rattle.job.specs.declared.StoreRule.{StoreRule}
use Rattle.job.specs.declared.StoreRule.TheVariants.{PerStep, PerHour}
use Rattle.job.specs.declared.refusal.Refusal.TheVariants.{NoPlan}
use Rattle.timeline.specs.declared.Day as told
use Rattle.checker.specs.Check.{check_plan}
use Rattle.times.specs.Time.{Time, at}
use Rattle.times.specs.Earliest.{Table, time_of, Solves}
use Rattle.makespan.specs.Makespan.{Makespan, ends_at, no_plan, makespan}

-- ── jobs ──

-- case 1: "No facts, actions or goals, deadline 0."
abbrev pub job1 : Job
job1 =
    record {
      facts = 0;
      deadline = 0;
      start = 0;
      goal = 0;
      form = Four;
      rule = PerStep;
      reserve = 0;
      pools = [];
      handovers = [];
      stores = [];
      shortest = [];
      actions = [];
    }

-- an action that uses no pool and no store
abbrev pub plain : ℕ → ℕ → ℕ → ℕ → Action
plain duration needs adds deletes =
    record { duration = duration; needs = needs; adds = adds; deletes = deletes; pools = []; stores = [] }

-- case 2: "Facts 0 to 4, start {0, 1}, goal {3, 4}. Action 0: length 3, needs 0, adds 3. Action 1: length 2, needs 1,
-- adds 2. Action 2: length 5, needs 2, adds 4."
abbrev pub job2 : ℕ → Job
job2 deadline =
    record {
      facts = 5;
      deadline = deadline;
      start = 3;
      goal = 24;
      form = Four;
      rule = PerStep;
      reserve = 0;
      pools = [];
      handovers = [];
      stores = [];
      shortest = [];
      actions = plain 3 1 8 0 ∷ plain 2 2 4 0 ∷ plain 5 4 16 0 ∷ [];
    }

-- cases 4, 5 and 7: "Two actions of length 2, needing no facts, add facts 0 and 1; goal both", with a deadline, pools
-- and stores, and what each action uses of these
abbrev pub two_actions : ℕ → List ℕ → List ℕ → List ℕ → List ℕ → Job
two_actions deadline pools stores pool_uses store_uses =
    record {
      facts = 2;
      deadline = deadline;
      start = 0;
      goal = 3;
      form = Four;
      rule = PerStep;
      reserve = 0;
      pools = pools;
      handovers = [];
      stores = stores;
      shortest = [];
      actions = adding 1 ∷ adding 2 ∷ [];
    }
  where
    adding : ℕ → Action
    adding facts = record { duration = 2; needs = 0; adds = facts; deletes = 0; pools = pool_uses; stores = store_uses }

-- case 4: "each uses 1 of a pool of 1"
abbrev pub job4 : ℕ → Job
job4 deadline = two_actions deadline (1 ∷ []) [] (1 ∷ []) []

-- case 5: "Pool of 2"
abbrev pub job5 : ℕ → Job
job5 deadline = two_actions deadline (2 ∷ []) [] (1 ∷ []) []

-- case 6: "Start {0}, goal {0, 1}, deadline 3. Action 0: length 2, needs and deletes 0, adds 1. Action 1: length 1,
-- needs 1, adds 0."
abbrev pub job6 : Job
job6 =
    record {
      facts = 2;
      deadline = 3;
      start = 1;
      goal = 3;
      form = Four;
      rule = PerStep;
      reserve = 0;
      pools = [];
      handovers = [];
      stores = [];
      shortest = [];
      actions = plain 2 1 2 1 ∷ plain 1 2 1 0 ∷ [];
    }

-- case 7: "Case 4 without pool, each using 2 of a store"
abbrev pub job7 : ℕ → ℕ → Job
job7 store deadline = two_actions deadline [] (store ∷ []) [] (2 ∷ [])

-- a day for the quoting screen (document 02, l), with the parts that forms and rules tell apart. Facts 0 to 3, start {0}, a
-- pool of 1 and a store of 5; each action uses 1 of both. Action 0: length 10, needs 0, adds 1. Action 1: length 5,
-- needs 0, adds 2. Action 2: length 70, needs 1 and 2, adds 3.
abbrev pub quoted : Form → StoreRule → ℕ → List ℕ → List ℕ → Job
quoted form rule reserve handovers shortest =
    record {
      facts = 4;
      deadline = 100;
      start = 1;
      goal = 8;
      form = form;
      rule = rule;
      reserve = reserve;
      pools = 1 ∷ [];
      handovers = handovers;
      stores = 5 ∷ [];
      shortest = shortest;
      actions = sharing 10 1 2 ∷ sharing 5 1 4 ∷ sharing 70 6 8 ∷ [];
    }
  where
    sharing : ℕ → ℕ → ℕ → Action
    sharing duration needs adds =
        record { duration = duration; needs = needs; adds = adds; deletes = 0; pools = 1 ∷ []; stores = 1 ∷ [] }

-- ── plans ──

-- "a step is the action (1 byte), then the start (2 bytes)"
abbrev pub step : ℕ → ℕ → List ℕ
step action start = to_bytes 1 action ++ to_bytes 2 start

-- an accepted plan of a job without pools: its end and its number of steps, and no peaks
abbrev pub accepted : ℕ → ℕ → Reply told.Day
accepted end steps = returned (record { end = end; steps = steps; peaks = replicate 4 0 })

-- ── the list ──

-- what is said of a day
pub data Day : Type 0 where
  -- the planner's reply, by the makespan: of the plan the end alone
  planned : Job → Reply ℕ → Day
  -- the earliest time of a set of facts, by the one table that solves the equations
  earliest : Job → ℕ → Time → Day
  -- the checker's reply to a plan
  checked : Job → List ℕ → Reply told.Day → Day

-- the least end, or the refusal for "no plan that passes 12 to 20"
abbrev pub end_reply : Makespan → Reply ℕ
end_reply (ends_at e) = returned e
end_reply no_plan = refused (number NoPlan)

abbrev pub Holds : Day → Type 0
Holds (planned J reply) = end_reply (makespan J J.goal) ≡ reply
Holds (earliest J set time) = (table : Table) × Solves J table × (time_of J table set ≡ time)
Holds (checked J plan reply) = reply_of (check_plan J plan) ≡ reply

abbrev pub days : List Day
days =
    -- 1: "end 0, no steps"
    planned job1 (returned 0)
    ∷ checked job1 [] (accepted 0 0)
    -- 2: "Deadline 7: end 7."
    ∷ planned (job2 7) (returned 7)
    -- 3: "The same, deadline 6: 22."
    ∷ planned (job2 6) (refused 22)
    -- 4: "Deadline 4: end 4, earliest time of both 4. Deadline 3: 22."
    ∷ planned (job4 4) (returned 4)
    ∷ earliest (job4 4) (job4 4).goal (at 4)
    ∷ planned (job4 3) (refused 22)
    -- 5: "Pool of 2: end 2, earliest time 2."
    ∷ planned (job5 4) (returned 2)
    ∷ planned (job5 3) (returned 2)
    ∷ earliest (job5 4) (job5 4).goal (at 2)
    -- 6: "End 3, earliest time of the goal 3."
    ∷ planned job6 (returned 3)
    ∷ earliest job6 job6.goal (at 3)
    -- 7: "store 4 ends at 2, store 3 gives 22"
    ∷ planned (job7 4 4) (returned 2)
    ∷ planned (job7 4 3) (returned 2)
    ∷ planned (job7 3 4) (refused 22)
    ∷ planned (job7 3 3) (refused 22)
    -- 8: "Case 6, action 0 at 0, action 1 at 2: accepted; at 1: 16."
    ∷ checked job6 (step 0 0 ++ step 1 2) (accepted 3 2)
    ∷ checked job6 (step 0 0 ++ step 1 1) (refused 16)
    -- 9: "Case 2, action 1 at 0, action 2 at 1: 19. Action 0 at 0 and at 2: 16."
    ∷ checked (job2 7) (step 1 0 ++ step 2 1) (refused 19)
    ∷ checked (job2 7) (step 0 0 ++ step 0 2) (refused 16)
    -- 10: "Case 2, action 1 at 0, 2 at 2, 0 at 4: end 7; deadline 6: 15. No steps: 20."
    ∷ checked (job2 7) (step 1 0 ++ step 2 2 ++ step 0 4) (accepted 7 3)
    ∷ checked (job2 6) (step 1 0 ++ step 2 2 ++ step 0 4) (refused 15)
    ∷ checked (job2 7) [] (refused 20)
    ∷ []

-- ── the quoting screen (document 02, l) ──

-- "all file forms, both battery rules": files of four, five and six entries, each with a head of 19 bytes and of 20
abbrev pub quoted_jobs : List Job
quoted_jobs =
    quoted Four PerStep 0 [] []
    ∷ quoted Five PerStep 0 (2 ∷ []) []
    ∷ quoted Six PerStep 0 (2 ∷ []) (9 ∷ 5 ∷ 60 ∷ [])
    ∷ quoted Four PerHour 20 [] []
    ∷ quoted Five PerHour 20 (2 ∷ []) []
    ∷ quoted Six PerHour 20 (2 ∷ []) (9 ∷ 5 ∷ 60 ∷ [])
    ∷ []

-- "sets of every size, not the goal alone": one fact, two, three and all
abbrev pub quotes : Job → List Day
quotes J = earliest J 2 (at 10) ∷ earliest J 6 (at 15) ∷ earliest J 7 (at 15) ∷ earliest J 15 (at 85) ∷ []
