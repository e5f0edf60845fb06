-- The rest of a begun day as a day of its own, which begins at minute M. Kept steps start before M, new ones at M or
-- later.
-- Assumes nothing.
use Rattle.std.specs.Prelude.{ℕ, suc, ◌-◌, Bool, cond, List, [], ◌∷◌, ◌++◌, map, ltb, length}
use Rattle.facts.specs.FactSet.{union}
use Rattle.job.specs.Job.{Action, Job}
use Rattle.timeline.specs.Step.{Step, union_of}
use Rattle.timeline.specs.Timeline.{held}

-- the step still runs in minute M
abbrev pub runs_in : ℕ → Step → Bool
runs_in M x = ltb M x.stop

-- the kept steps that do
abbrev pub running : ℕ → List Step → List Step
running M [] = []
running M (x ∷ K) = cond (runs_in M x) (x ∷ running M K) (running M K)

-- the action with another length
abbrev pub with_duration : ℕ → Action → Action
with_duration d a =
    record {
      duration = d;
      needs = a.needs;
      adds = a.adds;
      deletes = a.deletes;
      pools = a.pools;
      stores = a.stores;
    }

-- what is left of a running step, as an action
abbrev pub rest_action : ℕ → Step → Action
rest_action M x = with_duration (x.stop - M) x.action

-- the job of the rest: it starts with what holds at M, and has one more action for what is left of each running step;
-- it has no stores, since earliest times look at none
abbrev pub rest_of_job : Job → ℕ → List Step → Job
rest_of_job J M K =
    record {
      facts = J.facts;
      deadline = J.deadline - M;
      start = held J.start K M;
      goal = J.goal;
      form = J.form;
      rule = J.rule;
      reserve = J.reserve;
      pools = J.pools;
      handovers = J.handovers;
      stores = [];
      shortest = J.shortest;
      actions = J.actions ++ map (rest_action M) (running M K);
    }

-- what is left of a step, by the minutes of the rest, as one of another number and length; what has begun starts at 0
abbrev pub rest_step : ℕ → ℕ → ℕ → Step → Step
rest_step M number duration x =
    record {
      number = number;
      action = with_duration duration x.action;
      start = x.start - M;
      stop = x.stop - M;
    }

-- a new step keeps its number and its length
abbrev pub new_steps : ℕ → List Step → List Step
new_steps M N = map (λ x. rest_step M x.number x.action.duration x) N

-- what is left of the running steps has the numbers from n on
abbrev pub rest_steps : ℕ → ℕ → List Step → List Step
rest_steps M n [] = []
rest_steps M n (x ∷ R) = rest_step M n (rest_action M x).duration x ∷ rest_steps M (suc n) R

-- the plan of the rest: the new steps N, and what is left of the kept steps K
abbrev pub rest_of_plan : Job → ℕ → List Step → List Step → List Step
rest_of_plan J M N K = new_steps M N ++ rest_steps M (length J.actions) (running M K)

-- what the kept steps K give: all that holds at M, and all that those still running add
abbrev pub at_hand : Job → ℕ → List Step → ℕ
at_hand J M K = union (held J.start K M) (union_of (λ x. x.action.adds) (running M K))
