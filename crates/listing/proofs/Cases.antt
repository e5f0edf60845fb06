-- A job of which a listed plan begins another: "only single steps are dropped". Shown of the definitions.
-- Assumes nothing.
use Prim.Native.Nat.{ℕ}
use mathlib.Core.Path.{◌≡◌, refl, ap}
use mathlib.Core.Bool.{Bool, true, false}
use mathlib.Core.List.{List, [], ◌∷◌}
use Rattle.job.specs.Passed.{Passed}
use Rattle.job.specs.Resources.{handover, store_amount, store_cap}
use Rattle.job.specs.Lengths.{shortest_of}
use Rattle.timeline.specs.Places.{Place}
use Rattle.lists.specs.Lists.{tabulate, any}
use Rattle.facts.specs.FactSet.{has, union, difference, subset, meets, foreign}
use Rattle.encoding.specs.Bytes.{from_bytes, to_bytes}
use Rattle.job.specs.Job.{Action, Job}
use Rattle.job.specs.declared.Form.TheVariants.{Four}
use Rattle.job.specs.declared.StoreRule.TheVariants.{PerStep}
use Rattle.job.specs.Refusal.{first}
use Rattle.job.specs.Valid.{action_rows, limit_rows, uses_beyond, job_rows}
use Rattle.job.proofs.Passed.{passed}
use Rattle.timeline.specs.Step.{Step, step_of, steps_in, plan_bytes}
use Rattle.timeline.specs.Timeline.{free}
use Rattle.timeline.specs.Accepted.{Accepted, step_rows, plan_rows}
use Rattle.timeline.proofs.Tests.{not_both}
use Rattle.makespan.specs.Makespan.{is_pass, makespan_from}
use Rattle.makespan.proofs.LeastEnds.{least_end_of_makespan, nothing_begun}
use Rattle.listing.specs.Shortest.{ShortestEnd}
use Rattle.listing.specs.Listed.{Listed, comes_first}
use Rattle.listing.proofs.ListedPlans.{shortest_of_least}
use Rattle.listing.proofs.Exists.{drops_of_none, drops_with}

abbrev act : ℕ → ℕ → ℕ → ℕ → Action
act duration needs adds deletes =
    record { duration = duration; needs = needs; adds = adds; deletes = deletes; pools = []; stores = [] }

-- fact 0 at the start, facts 0 and 2 wanted; action 0 adds 2 in 3 minutes, 1 turns fact 0 into 1, 2 turns 1 into 0
abbrev job : Job
job =
    record {
      facts = 3;
      deadline = 4;
      start = 1;
      goal = 5;
      form = Four;
      rule = PerStep;
      reserve = 0;
      pools = [];
      handovers = [];
      stores = [];
      shortest = [];
      actions = act 3 0 4 0 ∷ act 1 1 2 1 ∷ act 2 2 1 2 ∷ [];
    }

abbrev short : List Step
short = step_of job 0 0 ∷ []

abbrev long : List Step
long = step_of job 0 0 ∷ step_of job 1 0 ∷ step_of job 2 1 ∷ []

job_passes : Passed job
unfolding tabulate any has union difference subset meets foreign first action_rows limit_rows uses_beyond job_rows
    shortest_of store_amount store_cap handover
job_passes = passed job refl

-- the accepted plans end at minute 3 or later
least_end : ShortestEnd job 5 3
unfolding tabulate any has union difference subset meets first free handover store_amount store_cap step_rows
    makespan_from
least_end = shortest_of_least job 5 3 (least_end_of_makespan job 5 0 [] job_passes (nothing_begun job) 3 refl)

accepts : List Step → Bool
accepts P = is_pass (first (plan_rows job 5 (plan_bytes P)))

refused : (P : List Step) → accepts P ≡ false → Accepted job 5 (plan_bytes P) → ⊥
unfolding accepts
refused P e h = not_both (ap is_pass h) e

short_spares_none : (x : Step) (Q : List Step) → Place x Q short → accepts Q ≡ false
unfolding tabulate any has union difference subset meets from_bytes to_bytes first steps_in plan_bytes free handover
    store_amount
    store_cap step_rows plan_rows accepts
short_spares_none = drops_with accepts (step_of job 0 0) [] refl (drops_of_none (λ Q. accepts (step_of job 0 0 ∷ Q)))

pub short_is_listed : Listed job 5 short
unfolding tabulate any has union difference subset meets from_bytes to_bytes first steps_in plan_bytes free handover
    store_amount
    store_cap step_rows plan_rows
short_is_listed =
    record {
      in_bytes = refl;
      accepted = refl;
      least = least_end.least;
      none_spare = λ x Q i. refused Q (short_spares_none x Q i);
    }

long_spares_none : (x : Step) (Q : List Step) → Place x Q long → accepts Q ≡ false
unfolding tabulate any has union difference subset meets from_bytes to_bytes first steps_in plan_bytes free handover
    store_amount
    store_cap step_rows plan_rows accepts
long_spares_none =
    let a : Step = step_of job 0 0 in
    let b : Step = step_of job 1 0 in
    let c : Step = step_of job 2 1 in
    drops_with accepts a (b ∷ c ∷ []) refl
    (drops_with (λ Q. accepts (a ∷ Q)) b (c ∷ []) refl
    (drops_with (λ Q. accepts (a ∷ b ∷ Q)) c [] refl (drops_of_none (λ Q. accepts (a ∷ b ∷ c ∷ Q)))))

pub long_is_listed : Listed job 5 long
unfolding tabulate any has union difference subset meets from_bytes to_bytes first steps_in plan_bytes free handover
    store_amount
    store_cap step_rows plan_rows
long_is_listed =
    record {
      in_bytes = refl;
      accepted = refl;
      least = least_end.least;
      none_spare = λ x Q i. refused Q (long_spares_none x Q i);
    }

-- the plan that begins the other comes first
pub short_comes_first : comes_first short long ≡ true
short_comes_first = refl
