-- A job with more actions behind its own: what is left of steps that run already.
-- Assumes nothing.
use Rattle.std.specs.Prelude.{ℕ, ◌≤◌, List, ◌++◌, get_or, replicate}
use Rattle.lists.specs.Lists.{tabulate}
use Rattle.job.specs.declared.Counts.{Counts}
use Rattle.job.specs.declared.Job as held
use Rattle.job.specs.Job.{Action, Job, Fits, action_in, job_in, beyond, unused_action}
use Rattle.earliest.specs.declared.extra.Extra.{Extra}

-- no action
abbrev pub no_extra : Extra
no_extra = record { count = 0; actions = replicate 32 unused_action }

-- the action at place k; it has so many pools and stores as are counted
abbrev pub extra_at : Counts → Extra → ℕ → Action
extra_at counts extra k = action_in counts (get_or extra.actions k beyond)

-- the actions in the value
abbrev pub extra_actions : Counts → Extra → List Action
extra_actions counts extra = tabulate extra.count (extra_at counts extra)

-- the job with these actions in place of its own
abbrev pub with_actions : Job → List Action → Job
with_actions J actions =
    record {
      facts = J.facts;
      deadline = J.deadline;
      start = J.start;
      goal = J.goal;
      form = J.form;
      rule = J.rule;
      reserve = J.reserve;
      pools = J.pools;
      handovers = J.handovers;
      stores = J.stores;
      shortest = J.shortest;
      actions = actions;
    }

-- the job with the actions behind its own; their pools and stores are the job's
abbrev pub with_extra : held.Job → Extra → Job
with_extra job extra = with_actions (job_in job) ((job_in job).actions ++ extra_actions job.counts extra)

-- a table has entries for all facts, and the arrays have places for all actions, pools and stores that are counted
pub record AllFit (job : held.Job) (extra : Extra) : Type 0 where
  pub facts : job.facts ≤ 64
  pub counts : Fits job.counts
  pub count : extra.count ≤ 32
