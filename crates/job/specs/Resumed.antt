-- The job of what is left of a day: the facts that hold then at its start, and what the stores have left.
-- Assumes nothing.
use Rattle.std.specs.Prelude.{ℕ, List, length}
use Rattle.lists.specs.Lists.{firsts}
use Rattle.job.specs.declared.Job as held
use Rattle.job.specs.Job.{Job}

-- the job with other facts at its start and other availabilities of its stores
abbrev pub resumed : Job → ℕ → List ℕ → Job
resumed J start stores =
    record {
      facts = J.facts;
      deadline = J.deadline;
      start = start;
      goal = J.goal;
      form = J.form;
      rule = J.rule;
      reserve = J.reserve;
      pools = J.pools;
      handovers = J.handovers;
      stores = firsts (length J.stores) 0 stores;
      shortest = J.shortest;
      actions = J.actions;
    }

-- the same of a value
abbrev pub resumed_value : held.Job → ℕ → List ℕ → held.Job
resumed_value job start stores =
    record {
      facts = job.facts;
      deadline = job.deadline;
      start = start;
      goal = job.goal;
      form = job.form;
      rule = job.rule;
      reserve = job.reserve;
      counts = job.counts;
      pools = job.pools;
      handovers = job.handovers;
      stores = stores;
      shortest = job.shortest;
      actions = job.actions;
    }

-- the job with no part of its stores kept back
abbrev pub without_reserve : Job → Job
without_reserve J =
    record {
      facts = J.facts;
      deadline = J.deadline;
      start = J.start;
      goal = J.goal;
      form = J.form;
      rule = J.rule;
      reserve = 0;
      pools = J.pools;
      handovers = J.handovers;
      stores = J.stores;
      shortest = J.shortest;
      actions = J.actions;
    }

-- the same of a value
abbrev pub unreserved_value : held.Job → held.Job
unreserved_value job =
    record {
      facts = job.facts;
      deadline = job.deadline;
      start = job.start;
      goal = job.goal;
      form = job.form;
      rule = job.rule;
      reserve = 0;
      counts = job.counts;
      pools = job.pools;
      handovers = job.handovers;
      stores = job.stores;
      shortest = job.shortest;
      actions = job.actions;
    }
