-- A job, and the job that a value of the program holds.
-- Assumes nothing.
use Rattle.std.specs.Prelude.{ℕ, ◌≤◌, List, [], map, length, get_or, replicate}
use Rattle.lists.specs.Lists.{tabulate, firsts, filled}
use Rattle.job.specs.declared.Action as act
use Rattle.job.specs.declared.Job as held
use Rattle.job.specs.declared.Counts.{Counts}
use Rattle.job.specs.declared.Form.{Form}
use Rattle.job.specs.declared.Form.TheVariants.{Four, Five, Six}
use Rattle.job.specs.declared.StoreRule.{StoreRule}
use Rattle.job.specs.declared.StoreRule.TheVariants.{PerStep, PerHour}

-- "An action has a length of 1 to 255 minutes, a set of needed facts, one of added and one of deleted facts,
-- and a use of 0 to 1,000,000 of each pool and store." Needed facts are the field's preconditions; a pool is a
-- renewable resource, a store a consumable one.
pub record Action : Type 0 where
  pub duration : ℕ
  pub needs : ℕ
  pub adds : ℕ
  pub deletes : ℕ
  pub pools : List ℕ
  pub stores : List ℕ

-- "A job has 0 to 64 facts, numbered from 0, a start set and a goal set. Its deadline is 0 to 1,440 minutes. It has
-- 0 to 4 pools and 0 to 4 stores, each with an availability of 0 to 1,000,000. It has 0 to 64 actions."
-- "Each pool gets a handover of 0 to 30 minutes": one for each pool in a form that has them, else none. "The form
-- belongs to the job." "A sixth body gives one byte of shortest length for each action": one for each action in a form
-- that has them, else none. "Which head a job has belongs to the job": the rule by which its stores are used up, and "the
-- reserve, 0 to 50 percent".
pub record Job : Type 0 where
  pub facts : ℕ
  pub deadline : ℕ
  pub start : ℕ
  pub goal : ℕ
  pub form : Form
  pub rule : StoreRule
  pub reserve : ℕ
  pub pools : List ℕ
  pub handovers : List ℕ
  pub stores : List ℕ
  pub shortest : List ℕ
  pub actions : List Action

-- what stands for an action that the job lacks
abbrev pub no_action : Action
no_action = record { duration = 0; needs = 0; adds = 0; deletes = 0; pools = []; stores = [] }

-- how many entries the contents of a file of the form have
abbrev pub entries : Form → ℕ
entries Four = 4
entries Five = 5
entries Six = 6

-- how many handovers a job of the form with so many pools has, and how many shortest lengths one with so many actions
abbrev pub handover_count : Form → ℕ → ℕ
handover_count Four pools = 0
handover_count Five pools = pools
handover_count Six pools = pools

abbrev pub shortest_count : Form → ℕ → ℕ
shortest_count Four actions = 0
shortest_count Five actions = 0
shortest_count Six actions = actions

-- "A head of 20 bytes marks a job under the new rule"
abbrev pub head_size : StoreRule → ℕ
head_size PerStep = 19
head_size PerHour = 20

-- "A head of 19 bytes keeps the old rule, any reserve in such a job value is ignored"
abbrev pub reserve_in : StoreRule → ℕ → ℕ
reserve_in PerStep held = 0
reserve_in PerHour held = held

-- ── the job in a value: "what is beyond its counts is ignored; two jobs are the same if their counts and all
-- within them agree"; "what a job value holds beyond its form is ignored, in refusals and when jobs are compared too" ──

-- what an array of actions has past its end
abbrev pub beyond : act.Action
beyond = record { duration = 0; needs = 0; adds = 0; deletes = 0; pools = []; stores = [] }

abbrev pub action_in : Counts → act.Action → Action
action_in counts a =
    record {
      duration = a.duration;
      needs = a.needs;
      adds = a.adds;
      deletes = a.deletes;
      pools = firsts counts.pools 0 a.pools;
      stores = firsts counts.stores 0 a.stores;
    }

-- the action at place i
abbrev pub action_at : held.Job → ℕ → Action
action_at j i = action_in j.counts (get_or j.actions i beyond)

abbrev pub job_in : held.Job → Job
job_in j =
    record {
      facts = j.facts;
      deadline = j.deadline;
      start = j.start;
      goal = j.goal;
      form = j.form;
      rule = j.rule;
      reserve = reserve_in j.rule j.reserve;
      pools = firsts j.counts.pools 0 j.pools;
      handovers = firsts (handover_count j.form j.counts.pools) 0 j.handovers;
      stores = firsts j.counts.stores 0 j.stores;
      shortest = firsts (shortest_count j.form j.counts.actions) 0 j.shortest;
      actions = tabulate j.counts.actions (action_at j);
    }

-- the arrays of a value have places for all that it counts
abbrev pub Fits : Counts → Type 0
Fits counts = (counts.pools ≤ 4) × (counts.stores ≤ 4) × (counts.actions ≤ 64)

-- ── the value of a job: "a job holds its pools, stores and actions by value, unused places zero" ──

abbrev pub unused_action : act.Action
unused_action =
    record { duration = 0; needs = 0; adds = 0; deletes = 0; pools = replicate 4 0; stores = replicate 4 0 }

abbrev pub action_value : Action → act.Action
action_value a =
    record {
      duration = a.duration;
      needs = a.needs;
      adds = a.adds;
      deletes = a.deletes;
      pools = filled 4 0 a.pools;
      stores = filled 4 0 a.stores;
    }

abbrev pub job_value : Job → held.Job
job_value J =
    record {
      facts = J.facts;
      deadline = J.deadline;
      start = J.start;
      goal = J.goal;
      form = J.form;
      rule = J.rule;
      reserve = J.reserve;
      counts = record { pools = length J.pools; stores = length J.stores; actions = length J.actions };
      pools = filled 4 0 J.pools;
      handovers = filled 4 0 J.handovers;
      stores = filled 4 0 J.stores;
      shortest = filled 64 0 J.shortest;
      actions = filled 64 unused_action (map action_value J.actions);
    }

-- "a job standing beside a refusal is all zero"
abbrev pub zero_value : held.Job
zero_value =
    job_value
    (record {
      facts = 0;
      deadline = 0;
      start = 0;
      goal = 0;
      form = Four;
      rule = PerStep;
      reserve = 0;
      pools = [];
      handovers = [];
      stores = [];
      shortest = [];
      actions = [];
    })
