-- The table of times of the rest, filled from a value: times look at the facts, the start, the pools and the actions of
-- a job alone.
-- Assumes nothing.
use Prim.Native.Nat.{ℕ, ◌-◌}
use mathlib.Core.Path.{◌≡◌, subst}
use mathlib.Core.List.{List, [], ◌++◌, map}
use Rattle.job.specs.declared.Job as value
use Rattle.job.specs.Job.{Action, Job, job_in}
use Rattle.job.specs.Resumed.{resumed_value}
use Rattle.timeline.specs.Step.{Step}
use Rattle.timeline.specs.Timeline.{held}
use Rattle.times.specs.Earliest.{right_side}
use Rattle.earliest.specs.declared.extra.Extra.{Extra}
use Rattle.earliest.specs.Extra.{extra_actions, with_extra}
use Rattle.earliest.specs.Sweep.{Filled}
use Rattle.begun.specs.RestOfDay.{running, rest_action, rest_of_job}

-- the job with another deadline, goal and stores
abbrev otherwise : Job → ℕ → ℕ → List ℕ → Job
otherwise J deadline goal stores =
    record {
      facts = J.facts;
      deadline = deadline;
      start = J.start;
      goal = goal;
      form = J.form;
      rule = J.rule;
      reserve = J.reserve;
      pools = J.pools;
      handovers = J.handovers;
      stores = stores;
      shortest = J.shortest;
      actions = J.actions;
    }

filled_otherwise : (J : Job) (deadline goal : ℕ) (stores times : List ℕ) → Filled J times
    → Filled (otherwise J deadline goal stores) times
unfolding right_side
filled_otherwise J deadline goal stores times filled =
    let kept = filled.able.kept in
    record {
      able = record {
        few = filled.able.few;
        kept = record { whole = kept.whole; least = kept.least; bounded = kept.bounded };
      };
      solves = filled.solves;
    }

-- the day's value with what holds at M at its start, and with what is left of the running steps behind its actions
module _ (day : value.Job) (M : ℕ) (K : List Step) (start : ℕ) (stores : List ℕ) (extra : Extra)
    (holds : start ≡ held day.start K M)
    (left : extra_actions day.counts extra ≡ map (rest_action M) (running M K)) where
  abbrev rest : ℕ → List Action → Job
  rest facts actions =
      record {
        facts = day.facts;
        deadline = day.deadline - M;
        start = facts;
        goal = day.goal;
        form = day.form;
        rule = day.rule;
        reserve = (job_in day).reserve;
        pools = (job_in day).pools;
        handovers = (job_in day).handovers;
        stores = [];
        shortest = (job_in day).shortest;
        actions = (job_in day).actions ++ actions;
      }

  pub rest_times_filled : (times : List ℕ) → Filled (with_extra (resumed_value day start stores) extra) times
      → Filled (rest_of_job (job_in day) M K) times
  rest_times_filled times filled =
      subst (λ (facts : ℕ). Filled (rest facts (map (rest_action M) (running M K))) times) holds
      (subst (λ (actions : List Action). Filled (rest start actions) times) left
      (filled_otherwise _ (day.deadline - M) day.goal [] times filled))
